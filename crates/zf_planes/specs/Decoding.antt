-- What the decoder makes of the bits that are left, of which only as many count as the budget has.
use Rattle.std.specs.Prelude.{ℕ, ◌≡◌, ◌+◌, ◌<◌, ◌≤◌, ◌-◌, min, max, All, Bool, true, false, List, ◌∷◌, ◌++◌, length, take, replicate}
use Rattle.zf_spec.specs.Planes.{tail, code_from_run, plane_code, code, code_from, reach}
use Rattle.zf_spec.specs.Kept.{kept_tail, kept_run, kept_plane, kept_planes_from}
use Rattle.zf_spec.specs.ReadPlanes.{tail_in, run_in, plane_in, planes_in_from, planes_in}
use Rattle.zf_spec.specs.HeldPlanes.{digits_held, planes_held, IsClearFrom}
use Rattle.zf_spec.specs.Numbers.{field}
use Rattle.zf_bits.specs.Reader.{Reader, rest}

-- the planes whose code begins these bits
abbrev pub coded : ℕ → ℕ → ℕ → List Bool → List (List Bool)
coded budget prec size bits = planes_in prec size (take budget bits)

-- how many bits of their code the budget has
abbrev pub coded_bits : ℕ → ℕ → ℕ → List Bool → ℕ
coded_bits budget prec size bits = min budget (length (code (coded budget prec size bits)))

-- ---- the parts of the decoder: with r bits of budget, the digits that the bits s stand for, and how many bits they take

-- m digits behind those that had a one above
unfoldable pub tail_ahead : ℕ → ℕ → List Bool → List Bool
tail_ahead r m s = kept_tail r (tail_in m (take r s))

unfoldable pub tail_bits : ℕ → ℕ → List Bool → ℕ
tail_bits r m s = min r (length (tail (tail_in m (take r s))))

-- m digits of which the first one is to come
unfoldable pub run_ahead : ℕ → ℕ → List Bool → List Bool
run_ahead r m s = kept_run r (run_in m (take r s))

unfoldable pub run_bits : ℕ → ℕ → List Bool → ℕ
run_bits r m s = min r (length (code_from_run (run_in m (take r s))))

-- a plane in which the ranks below n have had a one above
unfoldable pub plane_ahead : ℕ → ℕ → ℕ → List Bool → List Bool
plane_ahead r size n s = kept_plane r n (plane_in size n (take r s))

unfoldable pub plane_bits : ℕ → ℕ → ℕ → List Bool → ℕ
plane_bits r size n s = min r (length (plane_code n (plane_in size n (take r s))))

-- p planes
unfoldable pub planes_ahead : ℕ → ℕ → ℕ → ℕ → List Bool → List (List Bool)
planes_ahead r p size n s = kept_planes_from r n (planes_in_from p size n (take r s))

unfoldable pub planes_bits : ℕ → ℕ → ℕ → ℕ → List Bool → ℕ
planes_bits r p size n s = min r (length (code_from n (planes_in_from p size n (take r s))))

-- ---- the reader

-- so many bits were passed, and the budget fell by as many
pub record Takes (old new : Reader) (before after count : ℕ) : Type 0 where
  pub enough : count ≤ length (rest old)
  pub place : new.at ≡ old.at + count
  pub all : new.all ≡ old.all
  pub spent : after + count ≡ before

-- there are not so many bits
pub record Lacks (old new : Reader) (count : ℕ) : Type 0 where
  pub few : length (rest old) < count
  pub all : new.all ≡ old.all

-- of a run of at most m digits, so many zeros and the one behind them were read; its tail is to come
pub record ReadsRun (m : ℕ) (old new : Reader) (left after zeros : ℕ) : Type 0 where
  pub within : zeros < m
  pub taken : Takes old new left after (left - after)
  pub bits : run_bits left m (rest old) ≡ left - after + tail_bits after (m - zeros - 1) (rest new)
  pub digits : run_ahead left m (rest old) ≡ replicate zeros false
      ++ true ∷ tail_ahead after (m - zeros - 1) (rest new)

-- the same of a run with the group bit before it
pub record ReadsGroup (m : ℕ) (old new : Reader) (left after zeros : ℕ) : Type 0 where
  pub within : zeros < m
  pub taken : Takes old new left after (left - after)
  pub bits : tail_bits left m (rest old) ≡ left - after + tail_bits after (m - zeros - 1) (rest new)
  pub digits : tail_ahead left m (rest old) ≡ replicate zeros false
      ++ true ∷ tail_ahead after (m - zeros - 1) (rest new)

-- the tail of a plane was read behind the digits below rank n, which others have, and so far do the ones of
-- both reach
pub record ReadsTail (size n : ℕ) (old new : Reader) (left after : ℕ) (prefix words : List ℕ) (above : ℕ)
    : Type 0 where
  pub taken : Takes old new left after (tail_bits left (size - n) (rest old))
  pub digits : digits_held size words ≡ digits_held n prefix ++ tail_ahead left (size - n) (rest old)
  pub clear : IsClearFrom size words
  pub reached : above ≡ max n (reach (digits_held size words))

-- so many bits are there, and the budget has them
pub record IsSpent (before after count : ℕ) (s : List Bool) : Type 0 where
  pub enough : count ≤ length s
  pub spent : after + count ≡ before

-- the code of the top p planes, which these bits begin with, was read into words, the planes below are zero,
-- and so much of the budget is left
pub record ReadsTop (budget p size : ℕ) (s : List Bool) (planes : List (List ℕ)) (after : ℕ) : Type 0 where
  pub bits : IsSpent budget after (planes_bits budget p size 0 s) s
  pub digits : planes_held size planes ≡ planes_ahead budget p size 0 s
      ++ replicate (length planes - p) (replicate size false)
  pub clear : All (IsClearFrom size) planes

-- ---- bits that were looked at

-- of the bits s that come next, this number has so many, the first one lowest, and a budget reaches as far
pub record IsWindow (left number count : ℕ) (s : List Bool) : Type 0 where
  pub bits : field count number ≡ take count s
  pub within : count ≤ left
  pub small : count ≤ 64
