use Rattle.zf_lorenzo.proofs.FirstAlone.{lorenzo-same}
use Rattle.zf_lorenzo.proofs.transform.keeps_first.Goals as goal

pub returns-clause-coefficients : goal.returns-clause-coefficients
returns-clause-coefficients g c d dims = lorenzo-same g.T.Lane.width d (g.T.Lane.value c.args.value) dims.0 ((g.met.T.Lane.in_range_fits (g.T.Lane.value c.args.value)).0 c.to_word-word.ensures.operand)
