use Rattle.zf_spec.proofs.Wrapping.{wrap_fits, wrap_is_same, wrap_value, wrap_only}
use Rattle.zf_spec.proofs.laws_of_numbers.wrapped_numbers.Goals as goal

pub returns : goal.returns
returns c = record { fits = wrap_fits; same = wrap_is_same; value = wrap_value; only = wrap_only }
