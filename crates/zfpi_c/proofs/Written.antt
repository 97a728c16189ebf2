-- Parts that are read, from the bytes that stand in their place.
use Rattle.std.proofs.Common.{◌≡◌, sym, ap, subst, ◌∙◌, zero, suc, ℕ, ◌*◌, ◌^◌, ◌<◌, ◌≤◌, lit<, ℤ, List, [], ◌∷◌, slice_index_or, length, take, drop, arith}
use Rattle.std.proofs.lemmas.{Nat.{mul-le}, List.{take_all}}
use Rattle.std.proofs.Math.Nat.{pow-le-pow_right}
use Rattle.std.specs.Int.{Width, byte_len}
use Rattle.zf_spec.{specs.Stream.{raw}, proofs.RawValues.{length-raw}}
use Rattle.zf_header.specs.declared.header.Header.{Header}
use Rattle.zf_part.specs.Blocks.{IsBlockOf, AreBlocksOf}
use Rattle.zfpi_c.specs.Parts.{Wrote}

-- the same bytes, of which more is known
pub wrote_as : {Is Other : List ℕ → Type 0} {old new : List ℕ} → ((text : List ℕ) → Is text → Other text) → Wrote Is old new → Wrote Other old new
wrote_as turn wrote = record { text = wrote.text; is = turn wrote.text wrote.is; written = wrote.written }

-- a block has bytes
pub some_bytes : (d size len : ℕ) → size ≡ 4 ^ d → 4 ≤ len → 0 < size * len
some_bytes d size len size_is some =
    let one : 4 ^ 0 ≤ 4 ^ d = let le : 0 ≤ d = omega arith in pow-le-pow_right {n = 4} (lit< tt) le in
    let least : 1 ≤ size = omega (arith, one, size_is) in
    omega (arith, mul-le 1 4 size len least some)

-- values have room, as so many have
pub values_fit : (count n len other room : ℕ) → count ≡ n → len ≡ other → n * other ≤ room → count * len ≤ room
values_fit count n len other room count_is len_is enough = subst (λ k. k ≤ room) (sym (ap (λ k. k * len) count_is ∙ ap (λ k. n * k) len_is)) enough

-- how many raw bytes so many values have
pub raw_count : {text : List ℕ} {w v : Width} {n : ℕ} (values : List ℤ) → text ≡ raw w values → length values ≡ n → w ≡ v → length text ≡ n * byte_len v
raw_count {text} {w} {v} {n} values text_is count same = ap length text_is ∙ (length-raw w values ∙ (ap (λ k. k * byte_len w) count ∙ ap (λ u. n * byte_len u) same))

-- a block is a list of one
pub one_block : (bytes : List ℕ) (h : Header) (b : ℕ) (values : List ℤ) → length values ≡ 4 ^ length h.shape → IsBlockOf bytes h b values → AreBlocksOf bytes h (b ∷ []) values
one_block bytes h b values count is = record { count = omega (arith, count); blocks = each }
  where
    each : (k : ℕ) → k < length (b ∷ []) → IsBlockOf bytes h (slice_index_or (b ∷ []) k 0) (take (4 ^ length h.shape) (drop (k * 4 ^ length h.shape) values))
    each zero lt =
        let none : 0 * 4 ^ length h.shape ≡ 0 = omega arith in
        let all : take (4 ^ length h.shape) (drop (0 * 4 ^ length h.shape) values) ≡ values = rw none (take_all (4 ^ length h.shape) values (omega (arith, count))) in
        subst (IsBlockOf bytes h b) (sym all) is
    each (suc k) lt = absurd (omega (arith, lt))
