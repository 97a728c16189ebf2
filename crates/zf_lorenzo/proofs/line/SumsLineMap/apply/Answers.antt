use Rattle.zf_lorenzo.proofs.Rounds.{sums_are_line}
use Rattle.zf_lorenzo.proofs.line.SumsLineMap.apply.Goals as goal

pub returns : goal.returns
returns g c =
    let fits = (g.met.T.Lane.in_range_fits _).0 c.add-y.ensures.operands.1 in
    sums_are_line _ _ _ _ _ _ _ _ _ _ _ fits c.add-w.ensures.value c.add-z.ensures.value c.add-w-2.ensures.value c.add-y.ensures.value c.add-z-2.ensures.value c.add-w-3.ensures.value
