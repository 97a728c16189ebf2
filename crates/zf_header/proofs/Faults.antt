-- The first fault of lists of lines, and the faults of sizes that were read from their fields.
use Rattle.std.proofs.Common.{rules, ◌≡◌, ℕ, zero, suc, ◌/◌, ◌^◌, ◌≤◌, ◌==◌, Bool, true, false, cond, nat_lt, List, [], ◌∷◌, ◌++◌, map, take, Some, None, Result, Ok, Err, refl, ap, ◌∙◌, arith}
use Rattle.std.{specs.List.{list_any}, proofs.lemmas.Nat.{pow_pos}, proofs.lemmas.Bool.{le-ltb}}
use Rattle.std.{proofs.lemmas.Bool.Decides.{nat_tests}, specs.Result.{MatchResult, IsErrAnd, result_err}}
use Rattle.std.proofs.lemmas.Result.{err_from_is_err_and}
use Rattle.zf_base.{specs.declared.shape.ShapeFault.{ShapeFault}, specs.Shapes.{shape_fault}}
use Rattle.zf_header.{specs.declared.header.HeaderFault.TheVariants.{TooLarge}, proofs.Bits.{number_at_below}}
use Rattle.zf_header.{specs.declared.header.HeaderFault.{HeaderFault}, specs.HeaderFields.{size_in, sizes_in}}
use Rattle.zf_header.specs.HeaderFaults.{first_fault, prefix_faults, size_faults, mode_faults, header_fault}
use Rattle.zf_spec.{specs.Grid.{upto, product, max_values}, proofs.Counting.{length-map-upto}}
use Rattle.zf_base.specs.declared.shape.ShapeFault.TheVariants as shape

-- ---- the first of several

first_fault-some : (a b : List (Bool × HeaderFault)) (f : HeaderFault) → Some f ≡ first_fault a → Some f ≡ first_fault (a ++ b)
first_fault-some [] b f e = absurd cc
first_fault-some ((true, g) ∷ a) b f e = e
first_fault-some ((false, g) ∷ a) b f e = first_fault-some a b f e

first_fault-none : (a b : List (Bool × HeaderFault)) → None ≡ first_fault a → first_fault b ≡ first_fault (a ++ b)
first_fault-none [] b e = refl
first_fault-none ((true, g) ∷ a) b e = absurd cc
first_fault-none ((false, g) ∷ a) b e = first_fault-none a b e

pub prefix_fault : (bytes : List ℕ) (f : HeaderFault) → Some f ≡ first_fault (prefix_faults bytes) → Some f ≡ header_fault bytes
unfolding header_fault
prefix_fault bytes f e = search (rules, first_fault-some)

pub size_fault : (bytes : List ℕ) (f : HeaderFault) → None ≡ first_fault (prefix_faults bytes) → Some f ≡ first_fault (size_faults bytes) → Some f ≡ header_fault bytes
unfolding header_fault
size_fault bytes f prefix e = search (rules, first_fault-some, first_fault-none)

-- where the prefix and the size are good, the mode decides
pub mode_fault : (bytes : List ℕ) → None ≡ first_fault (prefix_faults bytes) → None ≡ first_fault (size_faults bytes) → first_fault (mode_faults bytes) ≡ header_fault bytes
unfolding header_fault
mode_fault bytes prefix size = search (rules, first_fault-none)

-- ---- sizes from fields

-- a size is never zero, nor more than its field holds
pub size_bounds : (d axis : ℕ) (s : List Bool) → (1 ≤ size_in d axis s) × (size_in d axis s ≤ 2 ^ (48 / d))
size_bounds d axis s = search (rules, number_at_below, pow_pos)

-- the sizes along four axes, and those along the first d
pub take-sizes : (d : ℕ) (size : ℕ → ℕ) → d ≤ 4 → take d (size 0 ∷ size 1 ∷ size 2 ∷ size 3 ∷ []) ≡ map size (upto d)
take-sizes zero size four = refl
take-sizes (suc zero) size four = refl
take-sizes (suc (suc zero)) size four = refl
take-sizes (suc (suc (suc zero))) size four = refl
take-sizes (suc (suc (suc (suc zero)))) size four = refl
take-sizes (suc (suc (suc (suc (suc d))))) size four = absurd (omega arith)

list_any-none : (p : ℕ → Bool) (f : ℕ → ℕ) (ks : List ℕ) → ((k : ℕ) → p (f k) ≡ false) → list_any p (map f ks) ≡ false
list_any-none p f [] none = refl
list_any-none p f (k ∷ ks) none = rw (none k, list_any-none p f ks none) refl

not_zero : (n : ℕ) → 1 ≤ n → (n == 0) ≡ false
not_zero n some = grind (arith, nat_tests)

-- so they can only be too many values
pub shape_fault-sizes_in : (s : List Bool) → shape_fault (sizes_in s) ≡ cond (nat_lt max_values (product (sizes_in s))) (Some shape.TooLarge) None
shape_fault-sizes_in s = search (rules, length-map-upto, list_any-none, not_zero, size_bounds, le-ltb)

-- the fault that each fault of the sizes becomes
pub too_large : {X : Type 0} (made : Result X ShapeFault) (result : Result X HeaderFault) (Becomes : ShapeFault → HeaderFault → Type 0) (large : Bool) → ((e : ShapeFault) (f : HeaderFault) → Becomes e f → f ≡ TooLarge)
    → MatchResult made (λ x. result ≡ Ok x) (λ e. IsErrAnd result (Becomes e)) → result_err made ≡ cond large (Some shape.TooLarge) None → result_err result ≡ cond large (Some TooLarge) None
too_large (Ok x) result Becomes true only cases fault = absurd cc
too_large (Ok x) result Becomes false only cases fault = ap result_err cases
too_large (Err e) result Becomes true only cases fault =
    let p = err_from_is_err_and result cases in ap result_err p.1 ∙ ap (λ f. Some f) (only e p.0 p.2)
too_large (Err e) result Becomes false only cases fault = absurd cc
