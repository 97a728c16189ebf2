use Rattle.zf_lorenzo.proofs.Rounds.{differences_are_line}
use Rattle.zf_lorenzo.proofs.line.DifferencesLineMap.apply.Goals as goal

pub returns : goal.returns
returns g c =
    let fits = (g.met.T.Lane.in_range_fits _).0 c.sub-y.ensures.operands.1 in
    differences_are_line _ _ _ _ _ _ _ _ _ _ _ fits c.sub-w.ensures.value c.sub-z.ensures.value c.sub-y.ensures.value c.sub-w-2.ensures.value c.sub-z-2.ensures.value c.sub-w-3.ensures.value
