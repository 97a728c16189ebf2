-- Values and their raw bytes, and the length of the header.
use Rattle.std.proofs.Common.{rules, ◌≡◌, refl, ap, ◌∙◌, ℕ, zero, suc, ◌+◌, ◌-◌, ◌*◌, ◌/◌, ◌^◌, ◌<◌, ◌≤◌, cond, le-leb, ℤ, FitsSigned, List, [], ◌∷◌, ◌++◌, length, drop, flat_map, All, drop_at, suc-mul, arith}
use Rattle.std.{proofs.lemmas.Int.{of_z-to_z, to_z-of_z}, proofs.lemmas.Bool.{lt-leb}}
use Rattle.std.proofs.lemmas.List.{length-append}
use Rattle.std.proofs.lemmas.List.Elements.{All-head, All-tail, All-nil, All-cons, All-drop, All-append}
use Rattle.std.specs.Int.{Width, byte_len, to_le_bytes, from_le_bytes, cast_unsigned, cast_signed}
use borrow.Author.Differences.{fits_in, read_fits}
use mir.Val.{bits}
use Rattle.zf_spec.{specs.Numbers.{field}, proofs.Wrapping.{bits_is_half}, proofs.Fields.{length-field}}
use Rattle.zf_spec.specs.Stream.{Mode, fixed_rate, raw, first_bytes, values_from, long_form, header}
use Rattle.zf_spec.proofs.Bytes.{length-first_bytes, All-first_bytes, first_bytes-append, first_bytes-add, length-to_le_bytes, to_le_bytes_small, from_le_bytes-to_le_bytes, to_le_bytes-from_le_bytes, from_le_bytes_below}

-- ---- one value

unsigned_below : (w : Width) (v : ℤ) → FitsSigned w v → cast_unsigned w v < 2 ^ bits w
unsigned_below w v f = search (rules, bits_is_half)

signed_fits : (w : Width) (n : ℕ) → FitsSigned w (cast_signed w n)
signed_fits w n = omega (arith, fits_in, read_fits w n)

value_from_bytes : (w : Width) (v : ℤ) → FitsSigned w v → cast_signed w (from_le_bytes w (to_le_bytes w (cast_unsigned w v))) ≡ v
value_from_bytes w v f = ap (cast_signed w) (from_le_bytes-to_le_bytes w (cast_unsigned w v) (unsigned_below w v f)) ∙ to_z-of_z w v f

bytes_of_value : (w : Width) (bs : List ℕ) → length bs ≡ byte_len w → All (λ b. b < 256) bs → to_le_bytes w (cast_unsigned w (cast_signed w (from_le_bytes w bs))) ≡ bs
bytes_of_value w bs l all = ap (to_le_bytes w) (of_z-to_z w (from_le_bytes w bs) (from_le_bytes_below w bs l all)) ∙ to_le_bytes-from_le_bytes w bs l all

-- ---- values

pub length-values_from : (w : Width) (n : ℕ) (s : List ℕ) → length (values_from w n s) ≡ n
length-values_from w zero s = refl
length-values_from w (suc n) s = ap suc (length-values_from w n (drop (byte_len w) s))

pub values_from_fit : (w : Width) (n : ℕ) (s : List ℕ) → All (λ v. FitsSigned w v) (values_from w n s)
values_from_fit w zero s = All-nil (λ v. FitsSigned w v)
values_from_fit w (suc n) s = let rest = values_from_fit w n in search (rules, All-cons, signed_fits)

pub length-raw : (w : Width) (values : List ℤ) → length (raw w values) ≡ length values * byte_len w
length-raw w [] = omega arith
length-raw w (v ∷ values) =
    let rest = length-raw w values in search (rules, length-append, length-to_le_bytes, suc-mul)

pub raw_small : (w : Width) (values : List ℤ) → All (λ b. b < 256) (raw w values)
raw_small w [] = All-nil (λ b. b < 256)
raw_small w (v ∷ values) = All-append (λ b. b < 256) (to_le_bytes w (cast_unsigned w v)) (raw w values) (to_le_bytes_small w (cast_unsigned w v)) (raw_small w values)

-- values of the type come back from their raw bytes
pub values_from-raw : (w : Width) (values : List ℤ) → All (λ v. FitsSigned w v) values → values_from w (length values) (raw w values) ≡ values
values_from-raw w [] all = refl
values_from-raw w (v ∷ values) all =
    let l = length-to_le_bytes w (cast_unsigned w v) in
    let prefix = first_bytes-append (to_le_bytes w (cast_unsigned w v)) (raw w values) in
    let value = value_from_bytes w v (All-head (λ v. FitsSigned w v) v values all) in
    let rest = values_from-raw w values (All-tail (λ v. FitsSigned w v) v values all) in search (rules, drop_at)

-- bytes come back from the values whose raw bytes they are, continued with zeros or cut
pub raw-values_from : (w : Width) (n : ℕ) (s : List ℕ) → All (λ b. b < 256) s → raw w (values_from w n s) ≡ first_bytes (n * byte_len w) s
raw-values_from w zero s all = let none : 0 ≡ 0 * byte_len w = omega arith in ap (λ k. first_bytes k s) none
raw-values_from w (suc n) s all =
    let k = byte_len w in
    let here = bytes_of_value w (first_bytes k s) (length-first_bytes k s) (All-first_bytes k s all) in
    let rest = raw-values_from w n (drop k s) (All-drop (λ b. b < 256) k s all) in search (rules, suc-mul, first_bytes-add)

-- ---- the header

length-sizes : (k : ℕ) (ns : List ℕ) → length (flat_map (λ n. field k (n - 1)) ns) ≡ length ns * k
length-sizes k [] = omega arith
length-sizes k (n ∷ ns) = let rest = length-sizes k ns in search (rules, length-append, length-field, suc-mul)

-- the fields of the sizes have 48 bits in all
pub share : (d : ℕ) → 1 ≤ d → d ≤ 4 → d * (48 / d) ≡ 48
share d f g = grind arith

pub length-header : (w : Width) (ns : List ℕ) (mode : Mode) → 1 ≤ length ns → length ns ≤ 4 → length (header w ns mode) ≡ 96 + length (long_form mode)
unfolding header
length-header w ns mode f g =
    let sizes = length-sizes (48 / length ns) ns in
    let all = share (length ns) f g in
    simp (length-append, length-field) (omega arith)

pub length-long_form : (b : ℕ) → 2048 < b → length (long_form (fixed_rate b)) ≡ 52
length-long_form b h = ap (λ t. length (cond t [] (field 15 (b - 1) ++ field 15 (b - 1) ++ field 7 63 ++ field 15 15421))) (lt-leb b 2048 h)

pub length-short_form : (b : ℕ) → b ≤ 2048 → length (long_form (fixed_rate b)) ≡ 0
length-short_form b h = ap (λ t. length (cond t [] (field 15 (b - 1) ++ field 15 (b - 1) ++ field 7 63 ++ field 15 15421))) (le-leb b 2048 h)
