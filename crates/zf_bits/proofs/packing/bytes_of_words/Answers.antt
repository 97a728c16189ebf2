use Rattle.std.{proofs.lemmas.Grind.{common_steps}, proofs.Common.{◌<◌, ◌^◌, ap, ◌∙◌, arith}}
use Rattle.std.{specs.List.{flat_map}, specs.Int.{w64, to_le_bytes}, proofs.lemmas.List.{take_more, take_all}}
use Rattle.std.proofs.lemmas.List.Elements.{All-from_get_or}
use Rattle.zf_bits.proofs.Packed.{flat_map-push, bytes-words}
use Rattle.zf_bits.proofs.packing.bytes_of_words.Goals as goal

pub loop-word-preserved : goal.loop-word-preserved
loop-word-preserved c = grind (arith, common_steps, flat_map-push, take_more)

pub returns : goal.returns
returns c =
    let words = c.args.words.now in
    let all = take_all c.loop-word.word-index words c.loop-word-test.false in
    c.loop-word.invariant ∙ ap (flat_map (to_le_bytes w64)) all
    ∙ bytes-words words (All-from_get_or (λ v. v < 2 ^ 64) words 0 (λ i within. (c.type_inv.words i).fits))
