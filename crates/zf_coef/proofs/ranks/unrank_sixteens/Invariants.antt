use Rattle.std.proofs.Common.{◌*◌, map}
use mir.Val.{bits}
use Rattle.zf_spec.specs.Numbers.{value_of}
use Rattle.zf_coef.specs.HeldDigits.{digits_in, HasRanks}
use Rattle.zf_coef.proofs.ranks.unrank_sixteens.Given as goal

abbrev pub invariant-loop-sixteen : goal.invariant-loop-sixteen
invariant-loop-sixteen g l =
    let w = g.T.Lane.width in
    HasRanks l.d (16 * l.sixteen) (map (value_of w) (digits_in (bits w) l.digits)) (map g.T.Lane.value l.block)
