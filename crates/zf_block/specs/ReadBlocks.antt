-- What reading the code of a block is. A code does not tell which places of its block exist: the block is
-- read whole, and each extent of d dimensions finds the values that exist in it.
use Rattle.std.specs.Prelude.{ℕ, ◌≡◌, ◌+◌, ◌-◌, min, ℤ, Bool, List, length, take, drop, Some, None}
use Rattle.std.specs.Int.{Width}
use mir.Val.{bits}
use Rattle.zf_spec.specs.Numbers.{number}
use Rattle.zf_spec.specs.Planes.{code}
use Rattle.zf_spec.specs.ReadPlanes.{planes_in}
use Rattle.zf_spec.specs.Codes.{count_bits, existing_values, read_rev, read_rate, read_prec}
use Rattle.zf_bits.specs.Reader.{Reader, rest, Reads}

-- a reversible code of this block was read, and just its bits were passed
pub record ReadsRev (w : Width) (d : ℕ) (old new : Reader) (block : List ℤ) : Type 0 where
  pub code : (es : List ℕ) → length es ≡ d → read_rev w es (rest old)
      ≡ Some (existing_values es block, new.at - old.at)
  pub passed : Reads old new (take (new.at - old.at) (rest old))

-- the bits end before the reversible code does
pub record LacksRev (w : Width) (d : ℕ) (old : Reader) : Type 0 where
  pub code : (es : List ℕ) → length es ≡ d → read_rev w es (rest old) ≡ None

-- a code of so many bits was read, which stands for this block, and just its bits were passed
pub record ReadsRate (w : Width) (d budget : ℕ) (old new : Reader) (block : List ℤ) : Type 0 where
  pub code : (es : List ℕ) → length es ≡ d → read_rate w es (take budget (rest old))
      ≡ existing_values es block
  pub passed : Reads old new (take budget (rest old))

-- a code of this precision was read, and just its bits were passed
pub record ReadsPrec (w : Width) (d p : ℕ) (old new : Reader) (block : List ℤ) : Type 0 where
  pub code : (es : List ℕ) → length es ≡ d → read_prec w p es (rest old)
      ≡ Some (existing_values es block, new.at - old.at)
  pub passed : Reads old new (take (new.at - old.at) (rest old))

-- the bits end before the code of this precision does
pub record LacksPrec (w : Width) (d p : ℕ) (old : Reader) : Type 0 where
  pub code : (es : List ℕ) → length es ≡ d → read_prec w p es (rest old) ≡ None

-- how many bits the code of planes has that no budget cuts
abbrev pub uncut_len : ℕ → ℕ → List Bool → ℕ
uncut_len p size s = length (code (planes_in p size s))

-- ---- the parts of a reversible code at the front of bits that are continued with zeros, by a size of planes

-- its planes
unfoldable pub rev_planes : Width → ℕ → List Bool → List (List Bool)
rev_planes w size s = planes_in (number (take (count_bits w) s) + 1) size (drop (count_bits w) s)

-- how many bits it has
unfoldable pub rev_len : Width → ℕ → List Bool → ℕ
rev_len w size s = count_bits w + length (code (rev_planes w size s))

-- ---- those of a code of a fixed precision, which is its planes alone
unfoldable pub prec_planes : Width → ℕ → ℕ → List Bool → List (List Bool)
prec_planes w p size s = planes_in (min p (bits w)) size s

unfoldable pub prec_len : Width → ℕ → ℕ → List Bool → ℕ
prec_len w p size s = length (code (prec_planes w p size s))
