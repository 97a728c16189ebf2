use Rattle.std.{proofs.Common.{rules}, proofs.lemmas.List.{length-map}}
use Rattle.zf_coef.proofs.Prefixes.{each_long}
use Rattle.zf_coef.proofs.Transposed.{behind_more, groups_more, planes_of_groups, clear_of_groups}
use Rattle.zf_coef.proofs.planes.planes_of_digits.Goals as goal

pub loop-number-preserved : goal.loop-number-preserved
loop-number-preserved g c = record {
  behind = rw c.split_at.ensures.back
      (behind_more c.loop-number.number _ _ _ c.min.ensures c.loop-number.invariant.behind);
  groups = search (rules, groups_more, length-map);
}

pub returns-clause-digits : goal.returns-clause-digits
returns-clause-digits g c =
    let each = each_long g.P.Plane.words g.P.Plane.word_count g.met.P.Plane.long c.loop-number.planes in
    let same = length-map c.loop-number.planes g.P.Plane.words in
    search (rules, planes_of_groups)

pub returns-clause-clear : goal.returns-clause-clear
returns-clause-clear g c =
    let each = each_long g.P.Plane.words g.P.Plane.word_count g.met.P.Plane.long c.loop-number.planes in
    search (rules, clear_of_groups)
