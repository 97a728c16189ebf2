use Rattle.std.proofs.Common.{rules}
use Rattle.zf_spec.proofs.WordBits.{length-word_bits}
use Rattle.zf_store.proofs.Joined.{word_of_run}
use Rattle.zf_store.proofs.words.word_of_run.Goals as goal

pub returns : goal.returns
returns c = search (rules, word_of_run, length-word_bits)
