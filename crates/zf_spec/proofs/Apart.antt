-- The code of planes, and what a budget keeps of them, plane by plane.
use Rattle.std.proofs.Common.{rules, ◌≡◌, refl, sym, ap, ◌∙◌, ℕ, zero, suc, ◌-◌, ◌≤◌, max, Bool, true, false, List, [], ◌∷◌, ◌++◌, map, length, get_or, take, ⊎_elim, arith}
use Rattle.std.{proofs.lemmas.Bool.{true≢false, cases_lt}, proofs.lemmas.List.{length-append}}
use Rattle.std.specs.List.{flat_map}
use Rattle.zf_spec.{specs.Grid.{count_from, upto}, proofs.Reach.{only_end, none_past_reach, one_at_reach}}
use Rattle.zf_spec.specs.Planes.{reach, reach_of_all, plane_code, code_from, code, code_at}
use Rattle.zf_spec.specs.Kept.{kept_plane, kept_planes_from, kept_planes, kept_at}

-- ---- the reach of all planes

pub none_past_all : (ps : List (List Bool)) (j k : ℕ) → reach_of_all ps ≤ k → get_or (get_or ps j []) k false ≡ false
none_past_all [] j k h = refl
none_past_all (ds ∷ ps) zero k h = none_past_reach ds k (omega arith)
none_past_all (ds ∷ ps) (suc j) k h = none_past_all ps j k (omega arith)

pub one_in_some : (ps : List (List Bool)) (k : ℕ) → reach_of_all ps ≡ suc k → (j : ℕ) × (get_or (get_or ps j []) k false ≡ true)
one_in_some [] k h = absurd (omega arith)
one_in_some (ds ∷ ps) k h = ⊎_elim
    (λ l. (0, one_at_reach ds k (omega arith)))
    (λ l. let found = one_in_some ps k (omega arith) in (suc found.0, found.1))
    (cases_lt (reach_of_all ps) (reach ds))

pub reach_of_all_only : (ps : List (List Bool)) (n : ℕ) → ((j k : ℕ) → n ≤ k → get_or (get_or ps j []) k false ≡ false)
    → ((k : ℕ) → n ≡ suc k → (j : ℕ) × (get_or (get_or ps j []) k false ≡ true)) → n ≡ reach_of_all ps
reach_of_all_only ps n none one =
    only_end (λ k. (j : ℕ) × (get_or (get_or ps j []) k false ≡ true)) n (reach_of_all ps)
    (λ k h e. true≢false (sym e.1 ∙ none e.0 k h)) one
    (λ k h e. true≢false (sym e.1 ∙ none_past_all ps e.0 k h)) (one_in_some ps)

-- ---- lists over the numbers from one more on

flat_map-shift : (f g : ℕ → List Bool) → ((k : ℕ) → f (suc k) ≡ g k) → (k n : ℕ) → flat_map f (count_from (suc k) n) ≡ flat_map g (count_from k n)
flat_map-shift f g same k zero = refl
flat_map-shift f g same k (suc n) = ap (λ bs. bs ++ flat_map f (count_from (suc (suc k)) n)) (same k) ∙ ap (λ bs. g k ++ bs) (flat_map-shift f g same (suc k) n)

map-shift : (f g : ℕ → List Bool) → ((k : ℕ) → f (suc k) ≡ g k) → (k n : ℕ) → map f (count_from (suc k) n) ≡ map g (count_from k n)
map-shift f g same k zero = refl
map-shift f g same k (suc n) = ap (λ b. b ∷ map f (count_from (suc (suc k)) n)) (same k) ∙ ap (λ bs. g k ∷ bs) (map-shift f g same (suc k) n)

max-max : (a b c : ℕ) → max a (max b c) ≡ max (max a b) c
max-max a b c = omega arith

-- ---- where ranks below n have had a one above

code_after : ℕ → List (List Bool) → ℕ → List Bool
code_after n ps k = plane_code (max n (reach_of_all (take k ps))) (get_or ps k [])

code_from-apart : (n : ℕ) (ps : List (List Bool)) → code_from n ps ≡ flat_map (code_after n ps) (upto (length ps))
unfolding code_after
code_from-apart n [] = refl
code_from-apart n (ds ∷ ps) =
    let first : max n 0 ≡ n = omega arith in
    let behind = flat_map-shift (code_after n (ds ∷ ps)) (code_after (max n (reach ds)) ps) (λ k. ap (λ m. plane_code m (get_or ps k [])) (max-max n (reach ds) (reach_of_all (take k ps)))) 0 (length ps) in
    cc (code_from-apart (max n (reach ds)) ps)

kept_after : ℕ → ℕ → List (List Bool) → ℕ → List Bool
kept_after r n ps k = kept_plane (r - length (code_from n (take k ps))) (max n (reach_of_all (take k ps))) (get_or ps k [])

kept_planes_from-apart : (r n : ℕ) (ps : List (List Bool)) → kept_planes_from r n ps ≡ map (kept_after r n ps) (upto (length ps))
unfolding kept_after
kept_planes_from-apart r n [] = refl
kept_planes_from-apart r n (ds ∷ ps) =
    let first : max n 0 ≡ n = omega arith in
    let all : r - 0 ≡ r = omega arith in
    let more = r - length (plane_code n ds) in
    let left : (cs : List Bool) → r - length (plane_code n ds ++ cs) ≡ more - length cs = λ cs. omega (arith, length-append (plane_code n ds) cs) in
    let behind = map-shift (kept_after r n (ds ∷ ps)) (kept_after more (max n (reach ds)) ps)
    (λ k. cc (left (code_from (max n (reach ds)) (take k ps)), max-max n (reach ds) (reach_of_all (take k ps)))) 0 (length ps) in
    cc (kept_planes_from-apart more (max n (reach ds)) ps)

-- ---- from the greatest plane on

none_above : (n : ℕ) → max 0 n ≡ n
none_above n = omega arith

pub code-apart : (ps : List (List Bool)) → code ps ≡ flat_map (code_at ps) (upto (length ps))
unfolding code_after
code-apart ps = search (rules, code_from-apart, code_after, none_above)

pub kept_planes-apart : (budget : ℕ) (ps : List (List Bool)) → kept_planes budget ps ≡ map (kept_at budget ps) (upto (length ps))
unfolding kept_after
kept_planes-apart budget ps = search (rules, kept_planes_from-apart, kept_after, none_above)
