-- How far down the code of a block at a fixed rate has its planes whole.
--     Planes are a list, the greatest first; they are numbered from the lowest, which is plane 0.
use Rattle.std.specs.Prelude.{ℕ, ◌-◌, ◌^◌, Bool, nat_le, List, length, take}
use Rattle.std.specs.List.{position_or_len}
use Rattle.std.specs.Int.{Width}
use mir.Val.{bits}
use Rattle.zf_spec.specs.Grid.{upto}
use Rattle.zf_spec.specs.Planes.{code}
use Rattle.zf_spec.specs.ReadPlanes.{planes_in}

-- plane k and all above it
unfoldable pub planes_from : ℕ → List (List Bool) → List (List Bool)
planes_from k planes = take (length planes - k) planes

-- the least k, at most the number of planes, such that the codes of plane k and all above it have together at
-- most so many bits
unfoldable pub whole_from : ℕ → List (List Bool) → ℕ
whole_from budget planes =
    position_or_len (λ k. nat_le (length (code (planes_from k planes))) budget) (upto (length planes))

-- the least k of the planes that a code at a fixed rate stands for, however it came to be
unfoldable pub rate_whole_from : Width → ℕ → List Bool → ℕ
rate_whole_from w d s = whole_from (length s) (planes_in (bits w) (4 ^ d) s)
