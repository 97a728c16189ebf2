-- The field lies in the word.
use Rattle.std.proofs.Common.{rules}
use Rattle.zf_header.proofs.Bits.{number_in_word, number_at_below}
use Rattle.zf_header.proofs.reading.number_at.Goals as goal

pub returns : goal.returns
returns c = search (rules, number_in_word, number_at_below)
