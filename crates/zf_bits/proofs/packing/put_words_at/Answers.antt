use Rattle.std.{proofs.Common.{rules}, proofs.lemmas.List.{drop-drop, length-take, length-drop}}
use Rattle.zf_bits.proofs.Packed.{bits_put}
use Rattle.zf_bits.proofs.packing.put_words_at.Goals as goal

pub returns-clause-bits : goal.returns-clause-bits
returns-clause-bits c = search (rules, length-take, length-drop, drop-drop, bits_put)
