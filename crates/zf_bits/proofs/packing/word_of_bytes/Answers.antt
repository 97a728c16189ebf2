use Rattle.std.proofs.Common.{◌≡◌, ◌++◌, ◌∙◌, length, drop, replicate, ap, sym}
use Rattle.std.{specs.Int.{w64, from_le_bytes}, proofs.lemmas.List.{drop-replicate}}
use Rattle.zf_bits.{specs.Packing.{word_of}, proofs.Packed.{first_bytes-short}}
use Rattle.zf_bits.proofs.packing.word_of_bytes.Goals as goal

pub returns : goal.returns
unfolding word_of
returns c =
    let bytes = c.args.bytes.now in
    let given : c.from_le_bytes.result ≡ from_le_bytes w64 (c.copy_from_slice.new.self ++ drop (length bytes) (replicate 8 0)) = c.from_le_bytes.ensures in
    let zeros = drop-replicate (length bytes) 8 0 in
    given ∙ ap (from_le_bytes w64) (ap (λ bs. bs ++ drop (length bytes) (replicate 8 0)) c.copy_from_slice.ensures.after ∙ ap (λ bs. bytes ++ bs) zeros ∙ sym (first_bytes-short 8 bytes c.requires))
