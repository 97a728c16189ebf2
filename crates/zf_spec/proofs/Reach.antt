-- How far the ones of a plane reach, and how many planes there are down to the last that has a one.
use Rattle.std.proofs.Common.{◌≡◌, refl, sym, ap, ◌∙◌, ℕ, zero, suc, ◌≤◌, max, Bool, true, false, cond, ◌||◌, List, [], ◌∷◌, ◌++◌, map, length, get_or, replicate, ⊎_elim, arith, ◌-◌, rules}
use Rattle.std.proofs.lemmas.Bool.{true≢false, cases_order, cases_lt}
use Rattle.std.proofs.lemmas.List.{length-map, get_or-map, get_or_past}
use Rattle.zf_spec.specs.Planes.{has_one, reach, any_one, needed_planes}

-- ---- some digit is one

pub has_one-zeros : (n : ℕ) → has_one (replicate n false) ≡ false
has_one-zeros zero = refl
has_one-zeros (suc n) = has_one-zeros n

pub has_one-append_one : (ds rest : List Bool) → has_one (ds ++ true ∷ rest) ≡ true
has_one-append_one [] rest = refl
has_one-append_one (true ∷ ds) rest = refl
has_one-append_one (false ∷ ds) rest = has_one-append_one ds rest

-- digits with no one are zeros
pub zeros_from_none : (ds : List Bool) → has_one ds ≡ false → ds ≡ replicate (length ds) false
zeros_from_none [] h = refl
zeros_from_none (true ∷ ds) h = cc
zeros_from_none (false ∷ ds) h = ap (λ es. false ∷ es) (zeros_from_none ds h)

pub none_at : (ds : List Bool) (k : ℕ) → has_one ds ≡ false → get_or ds k false ≡ false
none_at [] k h = refl
none_at (true ∷ ds) k h = cc
none_at (false ∷ ds) zero h = refl
none_at (false ∷ ds) (suc k) h = none_at ds k h

pub none_from_each : (ds : List Bool) → ((k : ℕ) → get_or ds k false ≡ false) → has_one ds ≡ false
none_from_each [] h = refl
none_from_each (true ∷ ds) h = h 0
none_from_each (false ∷ ds) h = none_from_each ds (λ k. h (suc k))

pub one_at : (ds : List Bool) (k : ℕ) → get_or ds k false ≡ true → has_one ds ≡ true
one_at (true ∷ ds) k h = refl
one_at (false ∷ ds) (suc k) h = one_at ds k h
one_at ds k h = cc

-- ---- the reach

pub reach-le : (ds : List Bool) → reach ds ≤ length ds
reach-le [] = omega arith
reach-le (d ∷ ds) = let rest = reach-le ds in search rules

-- ranks with a one above are ranks of the plane
pub reach_within : (size n : ℕ) (ds : List Bool) → n ≤ size → length ds ≡ size → max n (reach ds) ≤ size
reach_within size n ds h l = omega (arith, reach-le ds)

pub reach_none : (ds : List Bool) → has_one ds ≡ false → reach ds ≡ 0
reach_none [] h = refl
reach_none (d ∷ ds) h = ap (λ t. cond t (suc (reach ds)) 0) h

pub reach_some : (d : Bool) (ds : List Bool) → has_one (d ∷ ds) ≡ true → reach (d ∷ ds) ≡ suc (reach ds)
reach_some d ds h = ap (λ t. cond t (suc (reach ds)) 0) h

-- no one stands from the reach on
pub none_past_reach : (ds : List Bool) (k : ℕ) → reach ds ≤ k → get_or ds k false ≡ false
none_past_reach [] k h = refl
none_past_reach (d ∷ ds) zero h = search rules
none_past_reach (d ∷ ds) (suc k) h = let next = none_past_reach ds k in search (rules, none_at)

-- a one stands just before it
pub one_at_reach : (ds : List Bool) (k : ℕ) → reach ds ≡ suc k → get_or ds k false ≡ true
one_at_reach [] k h = absurd (omega arith)
one_at_reach (true ∷ ds) zero h = refl
one_at_reach (false ∷ ds) zero h = search (rules, none_from_each, none_past_reach)
one_at_reach (d ∷ ds) (suc k) h = let next = one_at_reach ds k in search rules

-- a number is known by what stands just before it and nowhere from it on
pub only_end : (A : ℕ → Type 0) (n r : ℕ) → ((k : ℕ) → n ≤ k → A k → ⊥) → ((k : ℕ) → n ≡ suc k → A k)
    → ((k : ℕ) → r ≤ k → A k → ⊥) → ((k : ℕ) → r ≡ suc k → A k) → n ≡ r
only_end A n r none one none' one' = ⊎_elim
    (λ e. e)
    (⊎_elim
    (λ less. absurd (none (r - 1) (omega arith) (one' (r - 1) (omega arith))))
    (λ more. absurd (none' (n - 1) (omega arith) (one (n - 1) (omega arith)))))
    (cases_order n r)

-- the reach is the only number with a one just before it and none from it on
pub reach_only : (ds : List Bool) (n : ℕ) → ((k : ℕ) → n ≤ k → get_or ds k false ≡ false) → ((k : ℕ) → n ≡ suc k → get_or ds k false ≡ true) → n ≡ reach ds
reach_only ds n none one =
    only_end (λ k. get_or ds k false ≡ true) n (reach ds)
    (λ k h e. true≢false (sym e ∙ none k h)) one (λ k h e. true≢false (sym e ∙ none_past_reach ds k h))
    (one_at_reach ds)

-- ---- the planes that are used: the same over the planes, by whether each has a one

pub any_one-is : (ps : List (List Bool)) → any_one ps ≡ has_one (map has_one ps)
any_one-is [] = refl
any_one-is (ds ∷ ps) = ap (λ b. has_one ds || b) (any_one-is ps)

pub needed_planes-is : (ps : List (List Bool)) → needed_planes ps ≡ reach (map has_one ps)
needed_planes-is [] = refl
needed_planes-is (ds ∷ ps) = ap (λ t. cond t (suc (needed_planes ps)) 0) (any_one-is (ds ∷ ps)) ∙ ap (λ n. cond (has_one (map has_one (ds ∷ ps))) (suc n) 0) (needed_planes-is ps)

pub needed_planes-le : (ps : List (List Bool)) → needed_planes ps ≤ length ps
needed_planes-le ps = omega (arith, needed_planes-is ps, reach-le (map has_one ps), length-map ps has_one)

has_one_at : (ps : List (List Bool)) (k : ℕ) → get_or (map has_one ps) k false ≡ has_one (get_or ps k [])
has_one_at ps k = search (rules, get_or-map, get_or_past, length-map, cases_lt)

-- no plane from there on has a one
pub none_past_used : (ps : List (List Bool)) (k : ℕ) → needed_planes ps ≤ k → has_one (get_or ps k []) ≡ false
none_past_used ps k h = sym (has_one_at ps k) ∙ none_past_reach (map has_one ps) k (omega (arith, h, needed_planes-is ps))

-- the one just before has a one
pub one_at_used : (ps : List (List Bool)) (k : ℕ) → needed_planes ps ≡ suc k → has_one (get_or ps k []) ≡ true
one_at_used ps k h = sym (has_one_at ps k) ∙ one_at_reach (map has_one ps) k (sym (needed_planes-is ps) ∙ h)

pub used_only : (ps : List (List Bool)) (n : ℕ) → ((k : ℕ) → n ≤ k → has_one (get_or ps k []) ≡ false) → ((k : ℕ) → n ≡ suc k → has_one (get_or ps k []) ≡ true) → n ≡ needed_planes ps
used_only ps n none one = reach_only (map has_one ps) n (λ k h. has_one_at ps k ∙ none k h) (λ k h. has_one_at ps k ∙ one k h) ∙ sym (needed_planes-is ps)
