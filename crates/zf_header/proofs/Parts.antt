-- A header field by field, and how long it is.
use Rattle.std.proofs.Common.{rules, ◌≡◌, ◌≢◌, ℕ, ◌+◌, ◌-◌, ◌/◌, ◌<◌, ◌≤◌, Bool, cond, List, [], ◌++◌, length, refl, ap, arith, le-leb}
use Rattle.std.{proofs.lemmas.Bool.{lt-leb, cases_lt}, specs.List.{flat_map}}
use Rattle.zf_base.specs.Widths.{width_of}
use Rattle.zf_spec.{specs.Numbers.{field}, specs.Grid.{IsShape}}
use Rattle.zf_spec.specs.Stream.{magic, codec, type_number, mode_number, all_planes, no_exponent, long_form, header, fixed_rate}
use Rattle.zf_spec.proofs.RawValues.{length-header, length-long_form, length-short_form}
use Rattle.zf_header.{specs.declared.header.Header.{Header}, specs.declared.header.Mode.{Mode}}
use Rattle.zf_header.specs.HeaderBits.{coding, IsMode, header_bits}

-- the fields of the sizes
abbrev pub size_bits : List ℕ → List Bool
size_bits ns = flat_map (λ n. field (48 / length ns) (n - 1)) ns

-- the bits of a header, field by field
pub header_bits-parts : (h : Header) (l c t e m : ℕ) → l ≡ magic → c ≡ codec (length h.shape) → t ≡ type_number (width_of h.ty) - 1 → e ≡ length h.shape - 1 → m ≡ mode_number (coding h.mode)
    → field 24 l ++ field 8 c ++ field 2 t ++ field 2 e ++ size_bits h.shape ++ field 12 m ++ long_form (coding h.mode) ≡ header_bits h
unfolding header_bits header
header_bits-parts h l c t e m is_l is_c is_t is_e is_m = rw (is_l, is_c, is_t, is_e, is_m) refl

-- 96 bits, and the long form
pub length-header_bits : (h : Header) → IsShape h.shape → length (header_bits h) ≡ 96 + length (long_form (coding h.mode))
unfolding header_bits
length-header_bits h shape = length-header (width_of h.ty) h.shape (coding h.mode) shape.some_dimension shape.four_at_most

-- ---- the mode

-- the fields of the long form
abbrev pub long_fields : ℕ → List Bool
long_fields b = field 15 (b - 1) ++ field 15 (b - 1) ++ field 7 all_planes ++ field 15 no_exponent

pub short_number : (b : ℕ) → b ≤ 2048 → mode_number (fixed_rate b) ≡ b - 1
short_number b le = ap (λ t. cond t (b - 1) 4095) (le-leb b 2048 le)

pub long_number : (b : ℕ) → 2048 < b → mode_number (fixed_rate b) ≡ 4095
long_number b lt = ap (λ t. cond t (b - 1) 4095) (lt-leb b 2048 lt)

pub long_form_short : (b : ℕ) → b ≤ 2048 → long_form (fixed_rate b) ≡ []
long_form_short b le = ap (λ t. cond t [] (long_fields b)) (le-leb b 2048 le)

pub long_form_long : (b : ℕ) → 2048 < b → long_form (fixed_rate b) ≡ long_fields b
long_form_long b lt = ap (λ t. cond t [] (long_fields b)) (lt-leb b 2048 lt)

-- the number 4095 begins the long form, and no other does
pub length-long_form_begun : (m : Mode) → IsMode m → mode_number (coding m) ≡ 4095 → length (long_form (coding m)) ≡ 52
length-long_form_begun m has is = search (rules, cases_lt, length-long_form, short_number)

pub length-long_form_none : (m : Mode) → mode_number (coding m) ≢ 4095 → length (long_form (coding m)) ≡ 0
length-long_form_none m is_not = grind (arith, cases_lt, long_number, length-short_form)

-- no header is longer than one with the long form
length-long_form-le : (m : Mode) → length (long_form (coding m)) ≤ 52
length-long_form-le m = search (rules, cases_lt, length-long_form, length-short_form)

pub length-header_bits_le : (h : Header) → IsShape h.shape → length (header_bits h) ≤ 148
length-header_bits_le h shape = omega (arith, length-header_bits h shape, length-long_form-le h.mode)
