use Rattle.zf_bound.proofs.Certificates.{certified_is}
use Rattle.zf_bound.proofs.laws.one_certificate.Goals as goal

pub returns : goal.returns
returns c = certified_is
