-- What the stream of raw bytes looks at: as many bytes as the array has, continued with zeros.
use Rattle.std.proofs.Common.{◌≡◌, refl, sym, ap, ◌∙◌, ℕ, zero, suc, ◌+◌, ◌*◌, ◌≤◌, ℤ, List, [], ◌∷◌, ◌++◌, length, drop, replicate, drop_at, suc-mul, arith}
use Rattle.std.specs.Int.{Width, byte_len, from_le_bytes, cast_signed}
use Rattle.zf_spec.{specs.Grid.{product}, specs.Stream.{first_bytes, values_from, stream, stream_of_bytes}}
use Rattle.zf_spec.proofs.Bytes.{length-first_bytes, first_bytes-append, first_bytes-add}
use Rattle.zf_bits.proofs.Packed.{first_bytes-more}
use Rattle.zf_base.specs.Widths.{width_of}
use Rattle.zf_header.{specs.declared.header.Header.{Header}, specs.HeaderBits.{coding}}
use Rattle.zf_parse.specs.Raw.{stream_text}

first_bytes-zeros : (k : ℕ) (s : List ℕ) (z : ℕ) → first_bytes k (s ++ replicate z 0) ≡ first_bytes k s
first_bytes-zeros (suc k) [] (suc z) = ap (λ (bs : List ℕ). 0 ∷ bs) (first_bytes-zeros k [] z)
first_bytes-zeros (suc k) (b ∷ s) z = ap (λ (bs : List ℕ). b ∷ bs) (first_bytes-zeros k s z)
first_bytes-zeros _ s z = refl

-- values are those of so many bytes
values_from-first : (w : Width) (n : ℕ) (s : List ℕ) → values_from w n (first_bytes (n * byte_len w) s) ≡ values_from w n s
values_from-first w zero s = refl
values_from-first w (suc n) s =
    let k = byte_len w in
    let here = first_bytes k s in
    let rest = first_bytes (n * k) (drop k s) in
    let more : suc n * k ≡ k + n * k = omega (arith, suc-mul n k) in
    let long : length here ≡ k = length-first_bytes k s in
    let prefix : first_bytes k (here ++ rest) ≡ here = ap (λ m. first_bytes m (here ++ rest)) (sym long) ∙ first_bytes-append here rest in
    ap (values_from w (suc n)) (ap (λ m. first_bytes m s) more ∙ first_bytes-add k (n * k) s)
    ∙ ap (λ (bs : List ℕ). cast_signed w (from_le_bytes w bs) ∷ values_from w n (drop k (here ++ rest))) prefix
    ∙ ap (λ (bs : List ℕ). cast_signed w (from_le_bytes w here) ∷ values_from w n bs) (drop_at here rest k long)
    ∙ ap (λ (vs : List ℤ). cast_signed w (from_le_bytes w here) ∷ vs) (values_from-first w n (drop k s))

-- how many bytes are looked at
abbrev looked_at : Header → ℕ
looked_at h = product h.shape * byte_len (width_of h.ty)

same_text : (h : Header) (s t : List ℕ) → first_bytes (looked_at h) s ≡ first_bytes (looked_at h) t → stream_text h s ≡ stream_text h t
unfolding stream_text stream_of_bytes
same_text h s t same =
    let w = width_of h.ty in
    let n = product h.shape in
    ap (stream w h.shape (coding h.mode)) (sym (values_from-first w n s) ∙ ap (values_from w n) same ∙ values_from-first w n t)

-- zeros behind are those that are looked at anyway
pub stream_text-zeros : (h : Header) (s : List ℕ) (z : ℕ) → stream_text h (s ++ replicate z 0) ≡ stream_text h s
stream_text-zeros h s z = same_text h (s ++ replicate z 0) s (first_bytes-zeros (looked_at h) s z)

-- bytes behind those of the array are not looked at
pub stream_text-more : (h : Header) (s more : List ℕ) → product h.shape * byte_len (width_of h.ty) ≤ length s → stream_text h (s ++ more) ≡ stream_text h s
stream_text-more h s more within = same_text h (s ++ more) s (first_bytes-more (looked_at h) s more within)
