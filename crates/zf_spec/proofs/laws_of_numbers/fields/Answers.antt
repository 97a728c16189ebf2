use Rattle.zf_spec.proofs.Fields.{length-field, number-field, field-number, field-add}
use Rattle.zf_spec.proofs.laws_of_numbers.fields.Goals as goal

pub returns : goal.returns
returns c = record { length = length-field; number = number-field; only = field-number; parts = field-add }
