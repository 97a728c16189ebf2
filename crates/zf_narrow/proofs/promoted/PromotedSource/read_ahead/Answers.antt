use Rattle.zf_narrow.proofs.GivenNarrow.{gives_still}
use Rattle.zf_narrow.proofs.promoted.PromotedSource.read_ahead.Goals as goal

pub returns-clause-ungiven : goal.returns-clause-ungiven
returns-clause-ungiven g c = gives_still c.args.self.now.promotion c.read_ahead.ensures.ungiven
