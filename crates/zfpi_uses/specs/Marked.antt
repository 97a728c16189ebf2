-- The sum of a window of an array, and what is saved once its first run was written over.
use Rattle.std.specs.Prelude.{ℕ, ◌≡◌, ℤ, Bool, List, [], ◌∷◌, replicate, Some}
use Rattle.std.specs.Int.{w32}
use Rattle.zf_spec.specs.Grid.{product}
use Rattle.zf_base.specs.declared.lane.Ty.TheVariants.{I32}
use Rattle.zf_base.specs.declared.position.Pos.{Pos}
use Rattle.zf_header.specs.HeaderBits.{IsRate, block_bits}
use Rattle.zf_cached.specs.State.{State}
use Rattle.zf_cached.specs.Windows.{Window}
use Rattle.zf_cached.specs.Changes.{flush}
use Rattle.zf_cached.specs.Arrays.{saved_file}
use Rattle.zf_cached.specs.Unwritten.{IsUnwritten}
use Rattle.zf_parse.specs.Parsing.{header_of}
use Rattle.zf_index.specs.Opening.{IsUnopened}
use Rattle.zf_store.specs.Files.{IsOpened}
use Rattle.zf_array.specs.Standing.{Held, stored, format, state, shape}
use Rattle.zf_window.specs.Positions.{position_at, run_length}
use Rattle.zf_window.specs.WindowFields.{view_fault}
use Rattle.zf_view.specs.Runs.{run_changed}
use Rattle.zf_view.specs.Sums.{sum_in}
use Rattle.zfpi_uses.specs.declared.fault.Fault.{Fault}
use Rattle.zfpi_uses.specs.declared.fault.Fault.TheVariants as fault

-- the count places from the place first on
abbrev pub places_from : ℕ → ℕ → Window
places_from first count = record { origin = first ∷ []; size = count ∷ []; step = 1 ∷ [] }

abbrev pub first_place : Pos
first_place = record { x = 0; y = 0; z = 0; w = 0 }

-- the state of the array a once v was written over the first run of a window
abbrev pub marked : Held → Window → ℤ → State (List Bool)
marked a w v = run_changed a (position_at w first_place) (replicate (run_length w first_place) v)

-- the file of an array, with all that was changed
abbrev pub saved_of : Held → List ℕ
saved_of a = saved_file w32 (block_bits a.header.mode) (shape a) (flush (format a) (state a))

-- the file held the first array; the sum is that of its values in the window, which the second still has; the
-- third is the second with v in the window's first run, and what is saved is its file
pub record AreSteps (file : List ℕ) (w : Window) (v sum : ℤ) (saved : List ℕ) (opened read changed : Held)
    : Type 0 where
  pub opened_is : IsOpened file (header_of file) (stored opened)
  pub sum_is : sum ≡ sum_in (shape opened) (state opened) w (product w.size)
  pub read_is : IsUnwritten (state opened).codes (state opened).values (state read)
  pub read_header : read.header ≡ opened.header
  pub changed_is : state changed ≡ marked read w v
  pub changed_header : changed.header ≡ read.header
  pub saved_is : saved ≡ saved_of changed

-- a file was opened, summed, changed and saved
abbrev pub IsMarked : List ℕ → Window → ℤ → ℤ → List ℕ → Type 0
IsMarked file w v sum saved = (opened : Held) × ((read : Held)
    × ((changed : Held) × AreSteps file w v sum saved opened read changed))

-- why nothing was done
abbrev pub IsCause : List ℕ → ℕ → ℕ → Fault → Type 0
IsCause file first count (fault.Open f) = IsUnopened IsRate I32 1 file f
IsCause file first count (fault.View f) = view_fault (header_of file).shape (places_from first count) ≡ Some f
IsCause file first count fault.Memory = Unit {0}
