use Rattle.std.{proofs.Common.{◌≡◌, ◌^◌, ◌<◌, map, take}, specs.List.{AllWithin}}
use mir.Val.{bits}
use Rattle.zf_coef.specs.HeldDigits.{digits_in, ranked_digits}
use Rattle.zf_coef.proofs.ranks.rank.Given as goal

abbrev pub invariant-loop-rank : goal.invariant-loop-rank
invariant-loop-rank g l =
    let w = g.T.Lane.width in
    record {
      filled : take l.rank (digits_in (bits w) l.digits) ≡ take l.rank (ranked_digits w l.d (map g.T.Lane.value l.block));
      below : AllWithin (λ u. u < 2 ^ g.T.Lane.WIDTH) l.digits 0 l.rank;
    }
