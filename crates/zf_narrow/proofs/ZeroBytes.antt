-- The first byte of each int32 value that stands for a narrow one is zero, as the zero byte that stands for half a value is.
use Rattle.std.proofs.Common.{◌≡◌, refl, sym, ap, ◌∙◌, ℕ, ◌%◌, ◌≤◌, ◌⊎◌, inl, inr, ℤ, List, [], ◌∷◌, ◌++◌, map, drop, replicate, zero, suc, append_assoc, append-nil, arith}
use Rattle.std.{proofs.lemmas.Int.{ints}, specs.Int.{w32, to_le_bytes, cast_unsigned}}
use Rattle.zf_spec.specs.Stream.{raw}
use Rattle.zf_header.specs.declared.header.Header.{Header}
use Rattle.zf_parse.specs.Raw.{stream_text}
use Rattle.zf_stream.proofs.LookedAt.{stream_text-zeros}
use Rattle.zf_narrow.{specs.declared.narrow.Narrow.{Narrow}, specs.Values.{promoted}}
use Rattle.zf_narrow.specs.RawNarrow.{whole_values, promoted_bytes}

low_byte : (n : Narrow) (v : ℤ) → cast_unsigned w32 (promoted n v) % 256 ≡ 0
low_byte n v = grind (arith, ints)

-- no bytes, or a zero and more
abbrev BeginsZero : List ℕ → Type 0
BeginsZero bytes = (bytes ≡ []) ⊎ ((more : List ℕ) × (bytes ≡ 0 ∷ more))

begins_zero : (n : Narrow) (vs : List ℤ) → BeginsZero (raw w32 (map (promoted n) vs))
begins_zero n [] = inl refl
begins_zero n (v ∷ vs) =
    let more = drop 1 (to_le_bytes w32 (cast_unsigned w32 (promoted n v)) ++ raw w32 (map (promoted n) vs)) in
    inr (more, ap (λ (b : ℕ). b ∷ more) (low_byte n v))

-- so a zero byte behind bytes changes their stream in nothing, whatever narrow bytes follow: their values begin with it, or there are none
pub zero_behind : (n : Narrow) (h : Header) (first : List ℕ) (zeros : ℕ) (rest : List ℕ) → zeros ≤ 1 → (more : List ℕ) × (stream_text h (first ++ promoted_bytes n rest) ≡ stream_text h ((first ++ replicate zeros 0) ++ more))
zero_behind n h first zero rest few = (promoted_bytes n rest, ap (λ (bs : List ℕ). stream_text h (bs ++ promoted_bytes n rest)) (sym (append-nil first)))
zero_behind n h first (suc zero) rest few = by (promoted_bytes n rest) (begins_zero n (whole_values n rest))
  where
    by : (bytes : List ℕ) → BeginsZero bytes → (more : List ℕ) × (stream_text h (first ++ bytes) ≡ stream_text h ((first ++ 0 ∷ []) ++ more))
    by bytes (inl none) =
        ([], ap (λ (bs : List ℕ). stream_text h (first ++ bs)) none ∙ ap (stream_text h) (append-nil first) ∙ sym (stream_text-zeros h first 1) ∙ ap (stream_text h) (sym (append-nil (first ++ 0 ∷ []))))
    by bytes (inr some) = (some.0, ap (λ (bs : List ℕ). stream_text h (first ++ bs)) some.1 ∙ ap (stream_text h) (sym (append_assoc first (0 ∷ []) some.0)))
zero_behind n h first (suc (suc k)) rest few = absurd (omega (arith, few))
