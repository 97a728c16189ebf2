use Rattle.zf_spec.proofs.Negabinary.{value_of-digits, digits-value_of, value_of_fits}
use Rattle.zf_spec.proofs.laws_of_numbers.values_and_digits.Goals as goal

pub returns : goal.returns
returns c = record { value = value_of-digits; digits = digits-value_of; fits = value_of_fits }
