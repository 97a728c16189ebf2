-- What bytes without a fault are.
use Rattle.std.proofs.Common.{rules, ◌≡◌, ℕ, ◌^◌, ◌<◌, ◌≤◌, ◌==◌, Bool, true, false, not, ◌&&◌, ◌||◌, cond, nat_le, List, [], ◌∷◌, length, Some, None, refl, arith}
use Rattle.std.{specs.List.{AllByRecursion}, proofs.lemmas.Bool.Decides.{nat_tests}}
use Rattle.std.proofs.lemmas.Bool.{ltb-false, cases_lt, cases_eq, eq-eqb, ne_eqb, le-ltb, lt-leb, and_left, and_right, not_from_true, not-false}
use Rattle.zf_spec.{specs.Grid.{product, max_values}, specs.Stream.{magic, codec, to_bits}}
use Rattle.zf_header.{specs.declared.header.HeaderFault.{HeaderFault}, proofs.Bits.{number_at_below}}
use Rattle.zf_header.specs.HeaderFields.{magic_in, codec_in, type_in, dims_in, sizes_in, mode_in, is_long_rate}
use Rattle.zf_header.specs.HeaderFaults.{first_fault, mode_faults, header_fault}

-- no line holds
abbrev AllFalse : List (Bool × HeaderFault) → Type 0
AllFalse lines = AllByRecursion (λ line. line.0 ≡ false) lines

all_false : (lines : List (Bool × HeaderFault)) → None ≡ first_fault lines → AllFalse lines
all_false [] e = tt
all_false (line ∷ lines) e =
    elim line.0 as (λ t. None ≡ cond t (Some line.1) (first_fault lines) → (t ≡ false) × AllFalse lines) [ true ↦ λ h. absurd cc | false ↦ λ h. (refl, all_false lines h) ] e

no_fault : (lines : List (Bool × HeaderFault)) → AllFalse lines → None ≡ first_fault lines
no_fault [] e = refl
no_fault (line ∷ lines) e = rw e.0 (no_fault lines e.1)

-- the mode of bytes without a fault: a short rate, a precision, the reversible mode, or the long form of a rate
pub data GoodMode (bytes : List ℕ) : Type 0 where
  short : mode_in (to_bits bytes) ≤ 2047 → GoodMode bytes
  precise : 2048 ≤ mode_in (to_bits bytes) → mode_in (to_bits bytes) ≤ 2175 → GoodMode bytes
  without_loss : mode_in (to_bits bytes) ≡ 2176 → GoodMode bytes
  long : mode_in (to_bits bytes) ≡ 4095 → 19 ≤ length bytes → is_long_rate (to_bits bytes) ≡ true → GoodMode bytes

pub record Good (bytes : List ℕ) : Type 0 where
  pub enough : 12 ≤ length bytes
  pub is_magic : magic_in (to_bits bytes) ≡ magic
  pub is_codec : codec_in (to_bits bytes) ≡ codec (dims_in (to_bits bytes))
  pub is_type : type_in (to_bits bytes) ≤ 1
  pub is_size : product (sizes_in (to_bits bytes)) ≤ max_values
  pub is_mode : GoodMode bytes

not_false : (a b : ℕ) → not (a == b) ≡ false → a ≡ b
not_false a b e = grind (arith, nat_tests)

-- a test that holds only beside another
beside : (t x : Bool) → (t && x) ≡ false → t ≡ true → x ≡ false
beside true x e h = e
beside false x e h = absurd cc

outside : (a m b : ℕ) → (nat_le a m && nat_le m b) ≡ false → a ≤ m → b < m
outside a m b e above = grind (arith, nat_tests)

good_mode : (bytes : List ℕ) → AllFalse (mode_faults bytes) → mode_in (to_bits bytes) < 2 ^ 12 → GoodMode bytes
good_mode bytes none small = search (rules, cases_lt, cases_eq, outside, eq-eqb, ltb-false, beside, not-false)

pub good : (bytes : List ℕ) → None ≡ header_fault bytes → Good bytes
unfolding header_fault
good bytes none = grind (arith, all_false, ltb-false, not_false, good_mode, number_at_below)

-- ---- and the other way round

equal : (a b : ℕ) → a ≡ b → not (a == b) ≡ false
equal a b e = not_from_true _ (eq-eqb a b e)

below_range : (a m b : ℕ) → m < a → (nat_le a m && nat_le m b) ≡ false
below_range a m b lt = and_left _ _ (lt-leb a m lt)

above_range : (a m b : ℕ) → b < m → (nat_le a m && nat_le m b) ≡ false
above_range a m b lt = and_right _ _ (lt-leb m b lt)

mode_lines : (bytes : List ℕ) → GoodMode bytes → AllFalse (mode_faults bytes)
mode_lines bytes g = search (rules, ne_eqb, below_range, and_left, above_range, and_right, le-ltb, not_from_true)

codec_known : (d : ℕ) → (codec d == 5 || codec d == 69) ≡ true
codec_known d = elim (nat_le d 2) as (λ t. (cond t 5 69 == 5 || cond t 5 69 == 69) ≡ true) [ true ↦ refl | false ↦ refl ]

pub no_fault_of_good : (bytes : List ℕ) → Good bytes → None ≡ header_fault bytes
unfolding header_fault
no_fault_of_good bytes g = search (rules, codec_known, no_fault, le-ltb, equal, not_from_true, mode_lines)
