use Rattle.std.proofs.Common.{◌≡◌, ℕ, ◌<◌, ◌*◌, map}
use Rattle.zf_coef.specs.Groups.{word_of, KeepsOthers, HoldsFolded}
use Rattle.zf_coef.proofs.planes.put_folded.Given as goal

abbrev pub invariant-loop-eight : goal.invariant-loop-eight
invariant-loop-eight g l =
    let before = map g.P.Plane.words l.initial.planes in
    let now = map g.P.Plane.words l.planes in
    record {
      bits : HoldsFolded l.number l.from (8 * l.eight) l.words now;
      below : (k : ℕ) → k < l.from → word_of now l.number k ≡ word_of before l.number k;
      others : KeepsOthers l.number before now;
    }
