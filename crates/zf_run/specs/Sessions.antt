-- An array and a window as what a script works on.
use Rattle.std.specs.Prelude.{ℕ, ◌≡◌, Bool, List, length, refl}
use Rattle.std.specs.Int.{Width}
use Rattle.zf_spec.specs.Grid.{IsShape}
use Rattle.zf_base.specs.Widths.{width_of}
use Rattle.zf_base.specs.declared.lane.Ty.{Ty}
use Rattle.zf_header.specs.declared.header.Header.{Header}
use Rattle.zf_header.specs.declared.header.Mode.{Mode}
use Rattle.zf_header.specs.HeaderBits.{block_bits}
use Rattle.zf_cached.specs.Windows.{Window, whole}
use Rattle.zf_cached.specs.Steps.{Setting, Session}
use Rattle.zf_cached.specs.Replies.{Reply}
use Rattle.zf_cached.specs.Runs.{run, look_setting, look}
use Rattle.zf_cached.specs.Runs.{array_setting}
use Rattle.zf_commands.specs.Sittings.{session}
use Rattle.zf_array.specs.Standing.{Held, shape, state}
use Rattle.zf_const.specs.Standing as read

-- ---- an array that is read and written

-- what a script doesn't change about an array: the type of its values and the bits of a block
abbrev pub setting_of : Width → Held → Setting (List Bool)
setting_of w a = array_setting w (block_bits a.header.mode)

-- the values are those of the type
pub array_width : (w : Width) (budget : ℕ) → (array_setting w budget).width ≡ w
unfolding array_setting
array_width w budget = refl

-- what it does change
abbrev pub session_of : Held → Window → Session (List Bool)
session_of a window = session (shape a) (state a) window

-- the type of its values and its mode
abbrev pub kind : Held → Ty × Mode
kind a = (a.header.ty, a.header.mode)

-- what it begins with
abbrev pub start_of : Held → Session (List Bool)
start_of a = session_of a (whole (shape a))

-- the run of a script over an array, where the lines with these numbers are out of memory: the session at its
-- end, and the replies
abbrev pub run_of : Width → Held → List ℕ → List ℕ → Session (List Bool) × List Reply
run_of w a starved script = run (setting_of w a) starved (shape a) (state a) script

-- values of this width in d dimensions: so says the header of an array, and its sizes are those of a shape
pub record IsArray (w : Width) (d : ℕ) (h : Header) : Type 0 where
  pub same_type : w ≡ width_of h.ty
  pub sizes : IsShape h.shape
  pub dims : length h.shape ≡ d

-- b is one of the kind of a
abbrev pub StillArray : Width → ℕ → Held → Held → Type 0
StillArray w d a b = IsArray w d b.header × (kind b ≡ kind a)

-- ---- an array that is only read

-- what a script doesn't change about it: the type of its values and how its blocks are coded
abbrev pub look_setting_of : Width → Header → Setting (List Bool)
look_setting_of w h = look_setting w (read.coding_of h)

-- what it does change
abbrev pub look_session_of : read.Held → Window → Session (List Bool)
look_session_of a window = session (read.shape a) (read.state a) window

-- what it begins with
abbrev pub look_start_of : read.Held → Session (List Bool)
look_start_of a = look_session_of a (whole (read.shape a))

-- the look of a script at it
abbrev pub look_of : Width → read.Held → List ℕ → List ℕ → Session (List Bool) × List Reply
look_of w a starved script = look (look_setting_of w a.header) starved (read.shape a) (read.state a) script

-- its header and its codes
abbrev pub stream_of : read.Held → Header × List (List Bool)
stream_of a = (a.header, a.codes)
