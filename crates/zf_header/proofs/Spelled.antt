-- What is spelled so is read.
use Rattle.std.proofs.Common.{rules, ◌≡◌, ℕ, ◌+◌, ◌-◌, ◌^◌, ◌<◌, ◌≤◌, ◌==◌, Bool, true, false, cond, nat_le, List, ◌++◌, length, map, drop, refl, sym, ap, subst, ◌∙◌, arith, append_assoc, length-take, lit<, lit≤, None}
use Rattle.std.proofs.lemmas.Bool.{cases_lt, lt-ltb, eq-eqb, and_from}
use Rattle.std.proofs.lemmas.List.{take-append-drop}
use Rattle.zf_base.{specs.declared.lane.Ty.{Ty}, specs.declared.lane.Ty.TheVariants.{I32, I64}}
use Rattle.zf_base.specs.Widths.{width_of}
use Rattle.zf_spec.{specs.Numbers.{field}, specs.Grid.{upto}, proofs.Fields.{length-field}}
use Rattle.zf_spec.specs.Stream.{magic, codec, type_number, mode_number, all_planes, no_exponent, long_form, to_bits}
use Rattle.zf_spec.proofs.Bytes.{length-to_bits}
use Rattle.zf_header.{specs.declared.header.Header.{Header}, specs.declared.header.Mode.{Mode}}
use Rattle.zf_header.specs.declared.header.Mode.TheVariants.{Rate}
use Rattle.zf_header.specs.HeaderBits.{coding, IsMode, IsRate, IsHeader, header_bits, BeginsWith}
use Rattle.zf_header.specs.HeaderFields.{number_at, magic_in, codec_in, type_in, dims_in, size_in, mode_in, long_rate_in, is_long_rate, header_in}
use Rattle.zf_header.{specs.HeaderFaults.{header_fault}, proofs.Pieces.{number_at_field, behind_piece}}
use Rattle.zf_header.proofs.Parts.{size_bits, long_fields, header_bits-parts, length-header_bits, short_number, long_number, long_form_long, length-long_form_begun}
use Rattle.zf_header.{proofs.Sizes.{length-size_bits, sizes-size_bits}, proofs.Modes.{mode_again}}
use Rattle.zf_header.proofs.Good.{GoodMode, short, precise, without_loss, long, Good, no_fault_of_good}

abbrev header_of : Ty → List ℕ → Mode → Header
header_of ty ns mode = record { ty = ty; shape = ns; mode = mode }

same_header : {t u : Ty} {ns ms : List ℕ} {a b : Mode} → t ≡ u → ns ≡ ms → a ≡ b → header_of t ns a ≡ header_of u ms b
same_header p q r = cc

type_le : (ty : Ty) → type_number (width_of ty) - 1 ≤ 1
type_le I32 = lit≤ tt
type_le I64 = lit≤ tt

-- the fields say what the header does
pub record Says (s : List Bool) (h : Header) : Type 0 where
  pub magic_is : magic_in s ≡ magic
  pub codec_is : codec_in s ≡ codec (length h.shape)
  pub type_is : type_in s ≡ type_number (width_of h.ty) - 1
  pub dims_is : dims_in s ≡ length h.shape
  pub sizes_are : map (λ axis. size_in (length h.shape) axis s) (upto (length h.shape)) ≡ h.shape
  pub mode_is : mode_in s ≡ mode_number (coding h.mode)
  pub long_is : (b : ℕ) → h.mode ≡ Rate b → 2048 < b → (long_rate_in s ≡ b) × (is_long_rate s ≡ true)

-- the numbers of a header fit their fields
codec_small : (d : ℕ) → codec d < 2 ^ 8
codec_small d = elim (nat_le d 2) as (λ t. cond t 5 69 < 2 ^ 8) [ true ↦ lit< tt | false ↦ lit< tt ]

type_small : (ty : Ty) → type_number (width_of ty) - 1 < 2 ^ 2
type_small I32 = lit< tt
type_small I64 = lit< tt

mode_small : (mode : Mode) → IsMode mode → mode_number (coding mode) < 2 ^ 12
mode_small mode has = search (rules, cases_lt, long_number, short_number)

-- the long form is read
long_fields_read : (s after : List Bool) (b : ℕ) → drop 96 s ≡ long_fields b ++ after → 2048 < b → b ≤ 32768 → (long_rate_in s ≡ b) × (is_long_rate s ≡ true)
long_fields_read s after b is above most =
    let f = field 15 (b - 1) in
    let p = field 7 all_planes in
    let e = field 15 no_exponent in
    let at_96 : drop 96 s ≡ f ++ (f ++ (p ++ (e ++ after))) = is ∙ simp append_assoc in
    let at_111 = behind_piece s f (f ++ (p ++ (e ++ after))) 96 15 at_96 (length-field 15 (b - 1)) in
    let at_126 = behind_piece s f (p ++ (e ++ after)) 111 15 at_111 (length-field 15 (b - 1)) in
    let at_133 = behind_piece s p (e ++ after) 126 7 at_126 (length-field 7 all_planes) in
    let small : b - 1 < 2 ^ 15 = omega arith in
    let least = number_at_field s _ 96 15 (b - 1) at_96 small in
    let most = number_at_field s _ 111 15 (b - 1) at_111 small in
    let planes = number_at_field s _ 126 7 all_planes at_126 (lit< tt) in
    let exponent = number_at_field s _ 133 15 no_exponent at_133 (lit< tt) in
    let rate : long_rate_in s ≡ b = omega (arith, least) in
    (rate, and_from _ _ (and_from _ _ (and_from _ _ (lt-ltb 2048 (long_rate_in s) (omega arith)) (eq-eqb (number_at 111 15 s + 1) (long_rate_in s) (omega (arith, least, most)))) (eq-eqb _ _ planes)) (eq-eqb _ _ exponent))

-- the long form at its place
long_form_read : (s after : List Bool) (mode : Mode) (b : ℕ) → drop 96 s ≡ long_form (coding mode) ++ after → IsMode mode → mode ≡ Rate b → 2048 < b → (long_rate_in s ≡ b) × (is_long_rate s ≡ true)
long_form_read s after mode b is has e above =
    let rate : IsRate (Rate b) = subst IsMode e has in
    let fields : long_form (coding mode) ≡ long_fields b = ap (λ m. long_form (coding m)) e ∙ long_form_long b above in
    long_fields_read s after b (is ∙ ap (λ bs. bs ++ after) fields) above rate.1

-- where bits begin with those of a header, the fields say what it does
pub spelled_says : (h : Header) (y : List Bool) → IsHeader h → Says (header_bits h ++ y) h
spelled_says h y is =
    let s = header_bits h ++ y in
    let d = length h.shape in
    let t = type_number (width_of h.ty) - 1 in
    let k = mode_number (coding h.mode) in
    let behind_m = long_form (coding h.mode) ++ y in
    let behind_z = field 12 k ++ behind_m in
    let behind_e = size_bits h.shape ++ behind_z in
    let behind_t = field 2 (d - 1) ++ behind_e in
    let behind_c = field 2 t ++ behind_t in
    let behind_l = field 8 (codec d) ++ behind_c in
    let at_0 : s ≡ field 24 magic ++ behind_l =
    ap (λ bs. bs ++ y) (sym (header_bits-parts h magic (codec d) t (d - 1) k refl refl refl refl refl)) ∙ simp append_assoc in
    let at_24 = behind_piece s (field 24 magic) behind_l 0 24 at_0 (length-field 24 magic) in
    let at_32 = behind_piece s (field 8 (codec d)) behind_c 24 8 at_24 (length-field 8 (codec d)) in
    let at_34 = behind_piece s (field 2 t) behind_t 32 2 at_32 (length-field 2 t) in
    let at_36 = behind_piece s (field 2 (d - 1)) behind_e 34 2 at_34 (length-field 2 (d - 1)) in
    let at_84 = behind_piece s (size_bits h.shape) behind_z 36 48 at_36 (length-size_bits h.shape is.shape.some_dimension is.shape.four_at_most) in
    let at_96 = behind_piece s (field 12 k) behind_m 84 12 at_84 (length-field 12 k) in
    let few = is.shape.four_at_most in
    record {
      magic_is = number_at_field s behind_l 0 24 magic at_0 (lit< tt);
      codec_is = number_at_field s behind_c 24 8 (codec d) at_24 (codec_small d);
      type_is = number_at_field s behind_t 32 2 t at_32 (type_small h.ty);
      dims_is = omega (arith, number_at_field s behind_e 34 2 (d - 1) at_34 (omega arith));
      sizes_are = sizes-size_bits h.shape s behind_z is.shape at_36;
      mode_is = number_at_field s behind_m 84 12 k at_84 (mode_small h.mode is.mode);
      long_is = λ r mode above. long_form_read s y h.mode r at_96 is.mode mode above;
    }

-- and so they say that header
type_again : (ty : Ty) (t : ℕ) → t ≡ type_number (width_of ty) - 1 → cond (t == 0) I32 I64 ≡ ty
type_again ty t e = search rules

pub says_header : (s : List Bool) (h : Header) → IsHeader h → Says s h → header_in s ≡ h
says_header s h is says = search (rules, type_again, mode_again, same_header)

-- a header has one spelling, and none begins another
pub one_header : (g h : Header) (x y : List Bool) → IsHeader g → IsHeader h → header_bits g ++ x ≡ header_bits h ++ y → g ≡ h
one_header g h x y is_g is_h e =
    cc (says_header (header_bits g ++ x) g is_g (spelled_says g x is_g), says_header (header_bits h ++ y) h is_h (spelled_says h y is_h))

-- and the bytes have no fault
good_mode_said : (bytes : List ℕ) (mode : Mode) → IsMode mode → mode_in (to_bits bytes) ≡ mode_number (coding mode) → (mode_number (coding mode) ≡ 4095 → 19 ≤ length bytes)
    → ((b : ℕ) → mode ≡ Rate b → 2048 < b → (long_rate_in (to_bits bytes) ≡ b) × (is_long_rate (to_bits bytes) ≡ true)) → GoodMode bytes
good_mode_said bytes mode has is enough long_is = search (rules, cases_lt, without_loss, precise, long, short, long_number, short_number)

pub good_of_says : (bytes : List ℕ) (h : Header) → IsHeader h → length (header_bits h) ≤ length (to_bits bytes) → Says (to_bits bytes) h → Good bytes
good_of_says bytes h is within says = search (rules, length-header_bits, length-to_bits, type_le, good_mode_said, length-long_form_begun)

-- the fields of bytes that begin with a header say it
spelled_in : (bytes : List ℕ) (h : Header) → IsHeader h → BeginsWith bytes h → Says (to_bits bytes) h
spelled_in bytes h is begins_with =
    let parts = take-append-drop (length (header_bits h)) (to_bits bytes) in
    rw (← parts, begins_with.bits) (spelled_says h (drop (length (header_bits h)) (to_bits bytes)) is)

pub spelled_is_read : (bytes : List ℕ) (h : Header) → IsHeader h → BeginsWith bytes h → header_in (to_bits bytes) ≡ h
spelled_is_read bytes h is begins_with = says_header (to_bits bytes) h is (spelled_in bytes h is begins_with)

-- and the bytes have no fault
pub spelled_is_good : (bytes : List ℕ) (h : Header) → IsHeader h → BeginsWith bytes h → None ≡ header_fault bytes
spelled_is_good bytes h is begins_with =
    let within : length (header_bits h) ≤ length (to_bits bytes) = omega (arith, ap length begins_with.bits, length-take (length (header_bits h)) (to_bits bytes)) in
    no_fault_of_good bytes (good_of_says bytes h is within (spelled_in bytes h is begins_with))
