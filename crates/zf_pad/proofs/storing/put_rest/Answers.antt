use Rattle.zf_pad.proofs.Copying.{run_none}
use Rattle.zf_pad.proofs.storing.put_rest.Goals as goal

pub returns-then-count-eq0 : goal.returns-then-count-eq0
returns-then-count-eq0 g c = rw c.if-count-eq0.true (run_none _ _ _ _)
