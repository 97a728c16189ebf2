use Rattle.std.{proofs.Common.{ap, ◌∙◌, sym}, proofs.lemmas.List.{take_more_set}}
use Rattle.zf_narrow.specs.Promoting.{listed}
use Rattle.zf_narrow.proofs.taking.put_half.Goals as goal

pub returns-in-Some-clause-prefix : goal.returns-in-Some-clause-prefix
returns-in-Some-clause-prefix c = take_more_set c.args.piece.now 0 c.in-Some.byte c.requires ∙ sym (ap listed c.in-Some.is)
