-- What the calls of this crate make of a block together.
use Rattle.std.{proofs.Common.{rules, ◌≡◌, ℕ, ◌^◌, List, length}, specs.Int.{Width}}
use mir.Val.{bits}
use Rattle.zf_spec.specs.Codes as Codes
use Rattle.zf_spec.{specs.HeldPlanes.{planes_held}, specs.Planes.{digits_in_planes}}
use Rattle.zf_coef.specs.HeldDigits.{digits_in, unranked_values}

-- `from_planes` and then `unranked`: the block has the coefficients that the planes stand for
pub by_place-planes : (w : Width) (d : ℕ) (words : List ℕ) (planes : List (List ℕ))
    → length words ≡ 4 ^ d → length planes ≡ bits w
    → digits_in (length planes) words ≡ digits_in_planes (length planes) (length words) (planes_held (length words) planes)
    → unranked_values w d (digits_in (bits w) words) ≡ Codes.coefficients_of w d (planes_held (4 ^ d) planes)
by_place-planes w d words planes size count by_rank = search rules
