use Rattle.zf_sample.proofs.Counting.{none_changed}
use Rattle.zf_sample.proofs.laws.reversible_samples.Goals as goal

pub returns : goal.returns
returns c = λ h seed header mode. none_changed h seed header mode
