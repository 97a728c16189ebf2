-- The word's bits are those of its bytes.
use Rattle.std.proofs.Common.{◌≡◌, refl, ap, ◌∙◌, ℕ, ◌+◌, ◌-◌, List, [], ◌∷◌, length, get_or, take, drop, length-drop, arith}
use Rattle.std.{specs.Int.{w64, from_le_bytes}, proofs.lemmas.List.{length-take-le}}
use Rattle.zf_spec.specs.Numbers.{field}
use Rattle.zf_bits.proofs.Excerpts.{field-eight}
use Rattle.zf_bits.proofs.packing.word_of_bytes_at.Goals as goal

-- eight bytes, one by one
eight : (s : List ℕ) → length s ≡ 8 → get_or s 0 0 ∷ get_or s 1 0 ∷ get_or s 2 0 ∷ get_or s 3 0 ∷ get_or s 4 0 ∷ get_or s 5 0 ∷ get_or s 6 0 ∷ get_or s 7 0 ∷ [] ≡ s
eight (a ∷ b ∷ c ∷ d ∷ e ∷ f ∷ g ∷ h ∷ []) long = refl
eight s long = absurd (omega arith)

pub returns : goal.returns
returns c =
    let bytes = c.args.bytes.now in
    let at = c.args.at in
    let b = take (at + 8 - at) (drop at bytes) in
    let size : at + 8 - at ≡ 8 = omega arith in
    let same : b ≡ take 8 (drop at bytes) = ap (λ n. take n (drop at bytes)) size in
    let long : length b ≡ 8 = ap length same ∙ length-take-le 8 (drop at bytes) (omega (arith, length-drop at bytes, c.requires)) in
    let value : c.from_le_bytes.result ≡ from_le_bytes w64 b = c.from_le_bytes.ensures ∙ ap (from_le_bytes w64) (eight b long) in
    ap (field 64) (value ∙ ap (from_le_bytes w64) same) ∙ field-eight bytes at c.requires (λ i. (c.type_inv.bytes i).fits)
