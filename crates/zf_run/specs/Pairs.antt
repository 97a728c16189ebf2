-- A store and a two-way cache over it as what a script works on.
use Rattle.std.specs.Prelude.{◌≡◌, ℕ, ℤ, Bool, List, refl}
use Rattle.std.specs.Int.{Width}
use Rattle.zf_header.specs.declared.header.Header.{Header}
use Rattle.zf_header.specs.HeaderBits.{block_bits}
use Rattle.zf_cached.specs.State.{State}
use Rattle.zf_cached.specs.Windows.{Window}
use Rattle.zf_cached.specs.Steps.{Setting, Session}
use Rattle.zf_commands.specs.Sittings.{session}
use Rattle.zf_cache.specs.Kept.{Kept}
use Rattle.zf_store.specs.Stored.{Stored, format_of, code_at}
use Rattle.zf_twoway.specs.Runs.{twoway_setting}
use Rattle.zf_twoway.specs.Standing.{state_of, Fits}
use Rattle.zf_run.specs.Sessions.{IsArray}

module _ {X : Type 0} (value : X → ℤ) where
  -- the state that the two stand for
  abbrev pub pair_state : Stored → Kept X → State (List Bool)
  pair_state s c = state_of value c (format_of s) (code_at s)

  -- what a script changes about them, and the window
  abbrev pub pair_session : Stored → Kept X → Window → Session (List Bool)
  pair_session s c window = session s.header.shape (pair_state s c) window

  -- they fit
  abbrev pub PairFits : Stored → Kept X → Type 0
  PairFits s c = Fits value c (format_of s) (code_at s)

  -- so they do, and the values are of this width, in d dimensions
  pub record IsPair (w : Width) (d : ℕ) (s : Stored) (c : Kept X) : Type 0 where
    pub array : IsArray w d s.header
    pub fits : PairFits s c

-- what a script doesn't change about them: the type of the values and the bits of a block
abbrev pub two_setting_of : Width → Header → Setting (List Bool)
two_setting_of w h = twoway_setting w (block_bits h.mode)

-- the values are those of the type
pub two_width : (w : Width) (h : Header) → (two_setting_of w h).width ≡ w
unfolding twoway_setting
two_width w h = refl
