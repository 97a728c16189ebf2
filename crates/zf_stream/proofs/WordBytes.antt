-- The bytes of words.
use Rattle.std.proofs.Common.{◌≡◌, refl, sym, ap, ◌∙◌, ℕ, ◌*◌, ◌<◌, ◌^◌, ◌≤◌, List, [], ◌∷◌, length, take, drop, All, length-append, take-append-drop, drop_at, arith}
use Rattle.std.{proofs.lemmas.List.{take_at, length-take-le}, proofs.lemmas.Grind.{flat_map-append}}
use Rattle.std.{proofs.lemmas.List.Elements.{All-nil, All-append}, specs.Int.{w64, to_le_bytes}}
use Rattle.zf_spec.{specs.Numbers.{field, word_bits}, specs.Stream.{to_bits}}
use Rattle.zf_spec.proofs.Bytes.{to_bits-to_bytes, length-to_le_bytes, to_le_bytes_small}
use Rattle.zf_spec.proofs.WordBits.{length-word_bits}
use Rattle.zf_bits.proofs.Packed.{bytes-words}
use Rattle.zf_stream.specs.Flows.{bytes_in}

pub to_bits-bytes_in : (words : List ℕ) → All (λ v. v < 2 ^ 64) words → to_bits (bytes_in words) ≡ word_bits words
to_bits-bytes_in words fit =
    ap to_bits (bytes-words words fit) ∙ to_bits-to_bytes (word_bits words) (omega (arith, length-word_bits words))

pub small-bytes_in : (words : List ℕ) → All (λ b. b < 256) (bytes_in words)
small-bytes_in [] = All-nil (λ b. b < 256)
small-bytes_in (v ∷ words) = All-append (λ b. b < 256) (to_le_bytes w64 v) (bytes_in words) (to_le_bytes_small w64 v) (small-bytes_in words)

pub length-bytes_in : (words : List ℕ) → length (bytes_in words) ≡ 8 * length words
length-bytes_in [] = refl
length-bytes_in (v ∷ words) = omega (arith, length-append (to_le_bytes w64 v) (bytes_in words), length-to_le_bytes w64 v, length-bytes_in words)

-- the bits of the first words
pub word_bits-take : (n : ℕ) (words : List ℕ) → n ≤ length words → word_bits (take n words) ≡ take (64 * n) (word_bits words)
word_bits-take n words within =
    let prefix = word_bits (take n words) in
    let long : length prefix ≡ 64 * n = omega (arith, length-word_bits (take n words), length-take-le n words within) in
    sym (take_at prefix (word_bits (drop n words)) (64 * n) long)
    ∙ ap (take (64 * n)) (sym (flat_map-append (field 64) (take n words) (drop n words)) ∙ ap word_bits (take-append-drop n words))

-- and those behind
pub word_bits-drop : (n : ℕ) (words : List ℕ) → n ≤ length words → word_bits (drop n words) ≡ drop (64 * n) (word_bits words)
word_bits-drop n words within =
    let prefix = word_bits (take n words) in
    let long : length prefix ≡ 64 * n = omega (arith, length-word_bits (take n words), length-take-le n words within) in
    sym (drop_at prefix (word_bits (drop n words)) (64 * n) long)
    ∙ ap (drop (64 * n)) (sym (flat_map-append (field 64) (take n words) (drop n words)) ∙ ap word_bits (take-append-drop n words))
