-- Lists that are written from the front, place by place.
use Rattle.std.proofs.Common.{rules, ◌≡◌, ◌∙◌, ℕ, ◌+◌, ◌<◌, ◌≤◌, zero, suc, List, [], ◌∷◌, map, length}
use Rattle.std.proofs.Common.{get_or, set, get_or-set_same, get_or-set_other, length-set, arith}
use Rattle.std.proofs.lemmas.{Bool.{cases_lt}, List.{get_or_past}}

-- the place at the front gets a value
pub prefix_set : {X : Type 0} (xs : List X) (d : X) (f : ℕ → X) (n : ℕ) (x : X) → n < length xs → x ≡ f n
    → ((j : ℕ) → j < n → get_or xs j d ≡ f j) → (j : ℕ) → j < n + 1 → get_or (set xs n x) j d ≡ f j
prefix_set xs d f n x within here before j h = search (rules, get_or-set_other, get_or-set_same, cases_lt)

-- the places behind it stay
pub rest_set : {X : Type 0} (xs : List X) (d : X) (f : ℕ → X) (n : ℕ) (x : X)
    → ((j : ℕ) → n ≤ j → get_or xs j d ≡ f j) → (j : ℕ) → n + 1 ≤ j → get_or (set xs n x) j d ≡ f j
rest_set xs d f n x rest j h = get_or-set_other xs n j x d (λ (e : j ≡ n). absurd (omega arith)) ∙ rest j (omega arith)

-- the same of what is told of each value, where two lists are written at once
pub prefix_tells : {X : Type 0} (P : ℕ → X → Type 0) (xs : List X) (d : X) (n : ℕ) (x : X) → n < length xs → P n x
    → ((j : ℕ) → j < n → P j (get_or xs j d)) → (j : ℕ) → j < n + 1 → P j (get_or (set xs n x) j d)
prefix_tells P xs d n x within here before j h = search (rules, get_or-set_other, get_or-set_same, cases_lt)

-- lists that are all as long
pub each_long : {X Y : Type 0} (f : X → List Y) (n : ℕ) → ((x : X) → length (f x) ≡ n) → (xs : List X) (k : ℕ) → k < length (map f xs) → length (get_or (map f xs) k []) ≡ n
each_long f n long [] k h = absurd (omega arith)
each_long f n long (x ∷ xs) zero h = long x
each_long f n long (x ∷ xs) (suc k) h = each_long f n long xs k (omega arith)

-- places that are filled from the front, and those past the end
pub ruleset filling = (length-set, prefix_set, rest_set, get_or_past, cases_lt)
