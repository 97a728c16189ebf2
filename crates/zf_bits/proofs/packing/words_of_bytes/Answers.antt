use Rattle.std.proofs.Common.{ap, ◌∙◌, length, append_assoc, rules}
use Rattle.std.proofs.lemmas.List.{append-nil, nil_from_length}
use Rattle.zf_spec.specs.Numbers.{word_bits}
use Rattle.zf_bits.proofs.Packed.{words_of-append, length-words_of, word_bits-words_of}
use Rattle.zf_bits.proofs.packing.words_of_bytes.Goals as goal

pub loop-piece-preserved : goal.loop-piece-preserved
loop-piece-preserved c = search (rules, words_of-append, append_assoc)

pub returns-clause-words : goal.returns-clause-words
returns-clause-words c = search (rules, nil_from_length, append-nil)

pub returns-clause-bits : goal.returns-clause-bits
returns-clause-bits c = ap word_bits (returns-clause-words c) ∙ word_bits-words_of c.args.bytes.now (λ i. (c.type_inv.bytes i).fits)

pub returns-clause-len : goal.returns-clause-len
returns-clause-len c =
    c.loop-piece.words.ok.0 ∙ ap length (returns-clause-words c) ∙ length-words_of c.args.bytes.now
