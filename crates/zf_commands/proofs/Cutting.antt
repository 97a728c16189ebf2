-- Scripts cut at their first line feed.
use Rattle.std.proofs.Common.{◌≡◌, refl, ap, ◌∙◌, ℕ, suc, ◌+◌, ◌<◌, Bool, true, false, eqb, List, [], ◌∷◌, length, take, drop, get_or, arith, rules}
use Rattle.std.{specs.List.{onto_first}, proofs.lemmas.List.Splits.{slice_split-cons_no}}
use Rattle.zf_cached.specs.Runs.{lines_of}

is_false : (b : Bool) → (b ≡ true → ⊥) → b ≡ false
is_false _ h = search rules

-- there is none
pub one_line : (bs : List ℕ) → ((k : ℕ) → k < length bs → eqb (get_or bs k 0) 10 ≡ true → ⊥) → lines_of bs ≡ bs ∷ []
one_line [] none = refl
one_line (b ∷ bs) none =
    slice_split-cons_no (λ a. eqb a 10) b bs (is_false (eqb b 10) (none 0 (omega arith)))
    ∙ ap (onto_first b) (one_line bs (λ k lt. none (suc k) (omega arith)))

-- it is at this place
pub line_and_rest : (bs : List ℕ) (end : ℕ) → end < length bs → ((k : ℕ) → k < end → eqb (get_or bs k 0) 10 ≡ true → ⊥) → eqb (get_or bs end 0) 10 ≡ true
    → lines_of bs ≡ take end bs ∷ lines_of (drop (end + 1) bs)
line_and_rest (b ∷ bs) (suc end) lt none there =
    let next : suc (end + 1) ≡ suc end + 1 = omega arith in
    slice_split-cons_no (λ a. eqb a 10) b bs (is_false (eqb b 10) (none 0 (omega arith)))
    ∙ ap (onto_first b) (line_and_rest bs end (omega arith) (λ k low. none (suc k) (omega arith)) there)
    ∙ ap (λ n. (b ∷ take end bs) ∷ lines_of (drop n (b ∷ bs))) next
line_and_rest _ end lt none there = search rules
