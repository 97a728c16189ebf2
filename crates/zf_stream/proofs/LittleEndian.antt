-- Raw bytes as values, one after another.
use Rattle.std.proofs.Common.{rules, ◌≡◌, ℕ, zero, suc, ◌+◌, ◌*◌, ◌<◌, ◌≤◌, ◌⊎◌, pos, List, [], ◌∷◌, ◌++◌, All, length, take, drop, ap, ◌∙◌, arith}
use Rattle.std.{proofs.lemmas.List.{drop-drop, length-drop}, proofs.Math.Nat.{mod-eq_of_lt}}
use Rattle.std.specs.Int.{Width, w32, w64, byte_len, from_le_bytes, cast_signed}
use Rattle.zf_spec.{specs.Numbers.{wrap}, specs.Stream.{first_bytes, values_from}}
use Rattle.zf_spec.proofs.Bytes.{first_bytes-all, from_le_bytes_below}
use Rattle.zf_base.proofs.Wrapping.{cast_signed_low}
use Rattle.zf_pad.proofs.RawValues.{first_bytes-take}

-- four bytes as a word of eight
narrow_word : (bytes : List ℕ) → length bytes ≡ 4 → from_le_bytes w64 (first_bytes 8 bytes) ≡ from_le_bytes w32 bytes
narrow_word (a ∷ b ∷ c ∷ d ∷ []) e = omega arith
narrow_word bytes e = absurd (omega arith)

word_at : (w : Width) (bytes : List ℕ) → (w ≡ w32) ⊎ (w ≡ w64) → length bytes ≡ byte_len w → from_le_bytes w64 (first_bytes 8 bytes) ≡ from_le_bytes w bytes
word_at w bytes two size = grind (arith, narrow_word, first_bytes-all)

-- the word's number, wrapped, is the value
pub value_is : (w : Width) (bytes : List ℕ) → (w ≡ w32) ⊎ (w ≡ w64) → length bytes ≡ byte_len w → All (λ b. b < 256) bytes
    → wrap w (pos (from_le_bytes w64 (first_bytes 8 bytes))) ≡ cast_signed w (from_le_bytes w bytes)
value_is w bytes two size small = grind (arith, from_le_bytes_below, mod-eq_of_lt, word_at, cast_signed_low)

-- one value more
pub values_from-more : (w : Width) (i : ℕ) (s : List ℕ) → (i + 1) * byte_len w ≤ length s
    → values_from w (i + 1) s ≡ values_from w i s ++ cast_signed w (from_le_bytes w (take (byte_len w) (drop (i * byte_len w) s))) ∷ []
values_from-more w zero s within = grind (arith, first_bytes-take)
values_from-more w (suc i) s within =
    let n = byte_len w in
    let next : suc i + 1 ≡ suc (i + 1) = omega arith in
    let rest = values_from-more w i (drop n s) (omega (arith, length-drop n s)) in
    let sum : n + i * n ≡ suc i * n = omega arith in
    let place : drop (i * n) (drop n s) ≡ drop (suc i * n) s = drop-drop (i * n) n s ∙ ap (λ k. drop k s) sum in search rules
