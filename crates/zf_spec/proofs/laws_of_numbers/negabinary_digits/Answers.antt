use Rattle.zf_spec.proofs.Negabinary.{length-digits, digits_sum-digits, digits_only}
use Rattle.zf_spec.proofs.laws_of_numbers.negabinary_digits.Goals as goal

pub returns : goal.returns
returns c = record { length = length-digits; sum = digits_sum-digits; only = digits_only }
