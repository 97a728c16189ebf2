use Rattle.std.proofs.Common.{map}
use Rattle.zf_coef.specs.Groups.{HoldsFrom, KeepsOthers}
use Rattle.zf_coef.proofs.planes.put_words.Given as goal

abbrev pub invariant-loop-j : goal.invariant-loop-j
invariant-loop-j g l =
    let before = map g.P.Plane.words l.initial.planes in
    let now = map g.P.Plane.words l.planes in
    record {
      words : HoldsFrom l.j l.number l.from l.words before now;
      others : KeepsOthers l.number before now;
    }
