use Rattle.std.proofs.Common.{refl}
use Rattle.zf_spec.proofs.PlaneCode.{tail-zeros, tail-first, tail-last}
use Rattle.zf_spec.proofs.laws_of_planes.cases_of_a_tail.Goals as goal

pub returns : goal.returns
returns c = record { nothing = refl; zeros = tail-zeros; one = tail-first; last = tail-last }
