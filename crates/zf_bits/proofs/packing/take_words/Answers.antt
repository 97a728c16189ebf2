-- The bits from the place on are seen.
use Rattle.std.proofs.Common.{◌≡◌, sym, ap, ◌∙◌, ◌+◌, ◌-◌, ◌*◌, ◌/◌, min, ◌++◌, length, take, drop, length-drop, arith}
use Rattle.std.proofs.lemmas.List.{length-take-le}
use Rattle.zf_spec.{specs.Numbers.{word_bits}, specs.Stream.{to_bits}}
use Rattle.zf_bits.proofs.Excerpts.{taken, place_within}
use Rattle.zf_bits.proofs.packing.take_words.Goals as goal

pub returns-clause-place : goal.returns-clause-place
returns-clause-place c =
    place_within c.args.file.now c.args.at (length c.args.words.now) c.min-count.result c.requires.within c.requires.some c.min-count.ensures

pub returns-clause-seen : goal.returns-clause-seen
returns-clause-seen c =
    let file = c.args.file.now in
    let first = 8 * (c.args.at / 64) in
    let count = c.min-count.result in
    let now = word_bits c.put_words_at.new.words in
    let least : count ≡ min (length file - first) (8 * length c.args.words.now) = c.min-count.ensures in
    let size : first + count - first ≡ count = omega arith in
    let piece = take count (drop first file) in
    let long : length piece ≡ count = length-take-le count (drop first file) (omega (arith, length-drop first file, least)) in
    let put : take (64 * 0 + 8 * length piece) now ≡ take (64 * 0) (word_bits c.args.words.now) ++ to_bits piece = rw size at c.put_words_at.ensures.bits in
    let same : 64 * 0 + 8 * length piece ≡ 8 * count = omega arith in
    taken file c.args.at (length c.args.words.now) count c.requires.within c.requires.some least (take (8 * count) now) (ap (λ k. take k now) (sym same) ∙ put)
