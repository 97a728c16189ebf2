-- One value more, of bytes and as bytes.
use Rattle.std.proofs.Common.{rules, ◌≡◌, ap, ◌∙◌, ℕ, ◌+◌, ◌*◌, ◌≤◌, ℤ, List, [], ◌∷◌, ◌++◌, map, length, take, drop, append-nil, suc-mul, arith}
use Rattle.std.{proofs.lemmas.List.{map_push}}
use Rattle.std.specs.Int.{Width, w32, byte_len, to_le_bytes, from_le_bytes, cast_unsigned, cast_signed}
use Rattle.zf_spec.{specs.Stream.{raw, values_from}, proofs.Bytes.{length-to_le_bytes}}
use Rattle.zf_stream.{proofs.LittleEndian.{values_from-more}, proofs.RawValues.{raw-append}}
use Rattle.zf_narrow.{specs.declared.narrow.Narrow.{Narrow}}
use Rattle.zf_narrow.specs.Values.{width_of, size_of, promoted, demoted}
use Rattle.zf_narrow.specs.RawNarrow.{value_of, narrow_bytes, values_in, raw_narrow}

pub size_is : (n : Narrow) → byte_len (width_of n) ≡ size_of n
size_is n = grind arith

pub length-narrow_bytes : (n : Narrow) (v : ℤ) → length (narrow_bytes n v) ≡ size_of n
length-narrow_bytes n v = length-to_le_bytes (width_of n) (cast_unsigned (width_of n) v) ∙ size_is n

pub one_more : (i k : ℕ) → (i + 1) * k ≡ i * k + k
one_more i k = search (rules, suc-mul)

raw-push : (w : Width) (xs : List ℤ) (v : ℤ) → raw w (xs ++ v ∷ []) ≡ raw w xs ++ to_le_bytes w (cast_unsigned w v)
raw-push w xs v = raw-append w xs (v ∷ []) ∙ ap (λ (bs : List ℕ). raw w xs ++ bs) (append-nil (to_le_bytes w (cast_unsigned w v)))

values_in-more : (n : Narrow) (i : ℕ) (s : List ℕ) → (i + 1) * size_of n ≤ length s → values_in n (i + 1) s ≡ values_in n i s ++ value_of n (take (size_of n) (drop (i * size_of n) s)) ∷ []
values_in-more n i s within = search (rules, values_from-more, size_is, map_push)

-- the int32 bytes of one narrow value more
pub promoted-more : (n : Narrow) (i : ℕ) (s : List ℕ) → (i + 1) * size_of n ≤ length s
    → raw w32 (map (promoted n) (values_in n (i + 1) s))
    ≡ raw w32 (map (promoted n) (values_in n i s)) ++ to_le_bytes w32 (cast_unsigned w32 (promoted n (value_of n (take (size_of n) (drop (i * size_of n) s)))))
promoted-more n i s within = search (rules, values_in-more, map_push, raw-push)

-- the narrow bytes of one int32 value more
pub demoted-more : (n : Narrow) (i : ℕ) (s : List ℕ) → (i + 1) * 4 ≤ length s
    → raw_narrow n (values_from w32 (i + 1) s)
    ≡ raw_narrow n (values_from w32 i s) ++ narrow_bytes n (demoted n (cast_signed w32 (from_le_bytes w32 (take 4 (drop (i * 4) s)))))
demoted-more n i s within = search (rules, values_from-more, map_push, raw-push)
