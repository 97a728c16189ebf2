-- The values of a good stream have fewer bytes than a word counts.
use Rattle.std.proofs.Common.{◌≡◌, refl, ℕ, ◌*◌, ◌/◌, ◌^◌, ◌≤◌, ◌<◌, Bool, true, false, nat_lt, List, [], ◌∷◌, ◌++◌, length, Option, Some, None, Result, Ok, arith}
use Rattle.std.{specs.Int.{byte_len}, proofs.lemmas.Bool.Decides.{nat_tests}}
use Rattle.zf_spec.{specs.Grid.{product, max_values}, specs.Stream.{to_bits}}
use Rattle.zf_base.{specs.declared.lane.Ty.{Ty}, specs.declared.lane.Ty.TheVariants.{I32, I64}, specs.Widths.{width_of}}
use Rattle.zf_header.specs.declared.header.HeaderFault.{HeaderFault}
use Rattle.zf_header.specs.declared.header.HeaderFault.TheVariants.{TooLarge}
use Rattle.zf_header.specs.HeaderFields.{sizes_in}
use Rattle.zf_header.specs.HeaderFaults.{first_fault, prefix_faults, mode_faults, header_fault}
use Rattle.zf_parse.{specs.declared.fault.StreamFault.{StreamFault}, specs.Parsing.{header_of, restore_answer, restored_text}}
use Rattle.zf_parse.{proofs.Parsed.{good_header}, proofs.Enough.{length-restored_text}}
use Rattle.zf_narrow.{specs.declared.narrow.Narrow.{Narrow}, specs.declared.narrow.Narrow.TheVariants.{I8, U8, I16, U16}}
use Rattle.zf_narrow.{specs.Values.{size_of}, specs.Texts.{answer_behind, restore_narrow_answer, narrow_restored}, proofs.Whole.{length-demoted_bytes}}

-- where there is no fault, no line holds
no_line : (a : List (Bool × HeaderFault)) (test : Bool) (fault : HeaderFault) (b : List (Bool × HeaderFault)) → first_fault ((a ++ (test, fault) ∷ []) ++ b) ≡ None → test ≡ false
no_line [] true fault b e = absurd cc
no_line [] false fault b e = refl
no_line ((true, f) ∷ a) test fault b e = absurd cc
no_line ((false, f) ∷ a) test fault b e = no_line a test fault b e

few_values : (bytes : List ℕ) → header_fault bytes ≡ None → product (header_of bytes).shape ≤ 134217728
unfolding header_fault
few_values bytes good =
    let values = product (sizes_in (to_bits bytes)) in
    let few : nat_lt 134217728 values ≡ false = no_line (prefix_faults bytes) (nat_lt max_values values) TooLarge (mode_faults bytes) good in
    grind (arith, nat_tests)

few_bytes : (ty : Ty) (count : ℕ) → count ≤ 134217728 → byte_len (width_of ty) * count ≤ 1073741824
few_bytes I32 count few = omega arith
few_bytes I64 count few = omega arith

pub small_text : (bytes : List ℕ) → header_fault bytes ≡ None → length (restored_text bytes) < 2 ^ 64
small_text bytes good =
    let h = header_of bytes in
    omega (arith, length-restored_text bytes good, few_bytes h.ty (product h.shape) (few_values bytes good))

pub small_restored : (bytes : List ℕ) → restore_answer bytes ≡ Ok tt → length (restored_text bytes) < 2 ^ 64
small_restored bytes good = small_text bytes (good_header bytes good)

-- ---- the same of values of 8 and 16 bits

good_behind : (f : Option HeaderFault) (ty : Ty) (answer : Result (Unit {0}) StreamFault) → answer_behind f ty answer ≡ Ok tt → f ≡ None
good_behind None ty answer good = refl
good_behind (Some f) ty answer good = absurd cc

no_longer : (n : Narrow) (count : ℕ) → count / 4 * size_of n ≤ count
no_longer I8 count = omega arith
no_longer U8 count = omega arith
no_longer I16 count = omega arith
no_longer U16 count = omega arith

pub small_narrow : (n : Narrow) (bytes : List ℕ) → restore_narrow_answer bytes ≡ Ok tt → length (narrow_restored n bytes) < 2 ^ 64
small_narrow n bytes good =
    let text = restored_text bytes in
    let small = small_text bytes (good_behind (header_fault bytes) (header_of bytes).ty (restore_answer bytes) good) in
    omega (arith, small, length-demoted_bytes n text, no_longer n (length text))
