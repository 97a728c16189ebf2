use Rattle.std.proofs.Common.{rules}
use Rattle.zf_spec.proofs.RawValues.{length-header, length-long_form, length-short_form}
use Rattle.zf_spec.proofs.laws_of_bytes.length_of_the_header.Goals as goal

pub returns : goal.returns
returns c = search (rules, length-header, length-long_form, length-short_form)
