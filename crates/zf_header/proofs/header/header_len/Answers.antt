-- The length of a header by the number of its mode.
use Rattle.std.proofs.Common.{rules}
use Rattle.zf_header.proofs.Parts.{length-header_bits, length-long_form_begun, length-long_form_none}
use Rattle.zf_header.proofs.header.header_len.Goals as goal

pub returns-then-mode_number-eq-LONG_FORM : goal.returns-then-mode_number-eq-LONG_FORM
returns-then-mode_number-eq-LONG_FORM c = search (rules, length-header_bits, length-long_form_begun)

pub returns-else-mode_number-eq-LONG_FORM : goal.returns-else-mode_number-eq-LONG_FORM
returns-else-mode_number-eq-LONG_FORM c = search (rules, length-header_bits, length-long_form_none)
