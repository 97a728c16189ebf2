use Rattle.zf_bound.proofs.LineLaws.{coefficients_within, values_close}
use Rattle.zf_bound.proofs.laws.a_line_comes_back_close.Goals as goal

pub returns : goal.returns
returns c = record { coefficients = coefficients_within; values = values_close }
