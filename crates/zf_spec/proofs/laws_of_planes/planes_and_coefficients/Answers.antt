use Rattle.zf_spec.proofs.PlaneDigits.{coefficients_of-planes, coefficients_of-needed_planes, planes-coefficients_of}
use Rattle.zf_spec.proofs.laws_of_planes.planes_and_coefficients.Goals as goal

pub returns : goal.returns
returns c = record { coefficients = coefficients_of-planes; needed = coefficients_of-needed_planes; planes = planes-coefficients_of }
