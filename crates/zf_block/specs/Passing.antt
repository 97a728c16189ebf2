-- How many bits the parts of a code have that bits begin with, and how far the ones of their digits reach;
-- and how far such a code is passed.
use Rattle.std.specs.Prelude.{ℕ, ◌≡◌, ◌+◌, ◌-◌, ◌≤◌, Bool, List, length, take, drop}
use Rattle.zf_spec.specs.Numbers.{field}
use Rattle.zf_spec.specs.Planes.{reach, code_from_run, tail, code_from, code}
use Rattle.zf_spec.specs.ReadPlanes.{run_in, tail_in, planes_in_from, planes_in}

-- the first bits are those of this number, the first one lowest, as far as it has as many
abbrev pub HasNext : ℕ → List Bool → Type 0
HasNext v s = (k : ℕ) → k ≤ 64 → k ≤ length s → field k v ≡ take k s

-- the tail of m digits
unfoldable pub tail_len : ℕ → List Bool → ℕ
tail_len m s = length (tail (tail_in m s))

unfoldable pub tail_reach : ℕ → List Bool → ℕ
tail_reach m s = reach (tail_in m s)

-- m digits of which the first one is to come
unfoldable pub run_len : ℕ → List Bool → ℕ
run_len m s = length (code_from_run (run_in m s))

unfoldable pub run_reach : ℕ → List Bool → ℕ
run_reach m s = reach (run_in m s)

-- of a code of so many bits for m digits, whose ones reach so far, the first part was passed, and the other
-- one is to come: its bits, how far the ones of its digits reach, and how many digits these are
pub record Along (len reached m : ℕ) (old : List Bool) (len' reached' m' : ℕ) (now : List Bool) : Type 0 where
  pub fewer : length now ≤ length old
  pub place : now ≡ drop (length old - length now) old
  pub bits : len ≡ length old - length now + len'
  pub digits : reached + m' ≡ m + reached'
  pub within : m' ≤ m

-- all of it was passed, and k digits are behind the last one
pub record Passes (len reached m : ℕ) (old now : List Bool) (k : ℕ) : Type 0 where
  pub fits : len ≤ length old
  pub passed : now ≡ drop len old
  pub digits : k + reached ≡ m

-- of p planes of this size that bits stand for, the codes of the top i were passed, whose ones reach to rank
-- n, and those of the others begin the bits that are left
pub record AlongPlanes (p size i n : ℕ) (old now : List Bool) : Type 0 where
  pub spent : length (code (take i (planes_in p size old))) + length now ≡ length old
  pub ahead : (k : ℕ) → length (code (take (i + k) (planes_in p size old)))
      ≡ length (code (take i (planes_in p size old)))
      + length (code_from n (take k (planes_in_from (p - i) size n now)))
