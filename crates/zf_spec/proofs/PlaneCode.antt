-- The code of a plane: the cases of its tail, and how long the code of planes is at most.
use Rattle.std.proofs.Common.{rules, ◌≡◌, refl, sym, ap, ◌∙◌, ℕ, suc, ◌+◌, ◌-◌, ◌*◌, ◌≤◌, max, Bool, true, false, cond, List, [], ◌∷◌, ◌++◌, length, take, drop, replicate, All, arith}
use Rattle.std.{proofs.lemmas.Bool.{true≢false}, proofs.lemmas.List.{length-append, length-take, length-drop}}
use Rattle.std.proofs.lemmas.List.Elements.{All-head, All-tail}
use Rattle.zf_spec.specs.Planes.{has_one, reach, group, code_from_run, tail, plane_code, code_from, code}
use Rattle.zf_spec.proofs.Reach.{has_one-zeros, has_one-append_one, reach_none, reach_some, reach-le}

-- ---- the cases of the tail

pub tail-zeros : (n : ℕ) → tail (replicate (suc n) false) ≡ false ∷ []
tail-zeros n = ap (λ t. cond t (true ∷ code_from_run (replicate (suc n) false)) (false ∷ [])) (has_one-zeros (suc n))

code_from_run-first : (j : ℕ) (e : Bool) (rest : List Bool) → code_from_run (replicate j false ++ true ∷ e ∷ rest) ≡ replicate j false ++ true ∷ tail (e ∷ rest)
code_from_run-first (suc (suc j)) e rest = ap (λ ds. false ∷ ds) (code_from_run-first (suc j) e rest)
code_from_run-first j e rest = refl

code_from_run-last : (j : ℕ) → code_from_run (replicate j false ++ true ∷ []) ≡ replicate j false
code_from_run-last (suc (suc j)) = ap (λ ds. false ∷ ds) (code_from_run-last (suc j))
code_from_run-last j = refl

-- digits that begin with zeros and then a one have a group bit and a run
tail_some : (j : ℕ) (rest : List Bool) → tail (replicate j false ++ true ∷ rest) ≡ true ∷ code_from_run (replicate j false ++ true ∷ rest)
tail_some j rest = search (rules, has_one-append_one)

-- the first one after j zeros, where something follows
pub tail-first : (j : ℕ) (e : Bool) (rest : List Bool) → tail (replicate j false ++ true ∷ e ∷ rest) ≡ true ∷ (replicate j false ++ true ∷ tail (e ∷ rest))
tail-first j e rest = tail_some j (e ∷ rest) ∙ ap (λ ds. true ∷ ds) (code_from_run-first j e rest)

-- the first one after j zeros at the last rank: it is implied
pub tail-last : (j : ℕ) → tail (replicate j false ++ true ∷ []) ≡ true ∷ replicate j false
tail-last j = tail_some j [] ∙ ap (λ ds. true ∷ ds) (code_from_run-last j)

-- ---- how long codes are at most

group_bound : (ds run : List Bool) → 1 ≤ length ds → (has_one ds ≡ true → 1 + length run ≤ length ds + reach ds) → length (group ds run) ≤ length ds + reach ds
group_bound ds run h f = search rules

in_run_bound : (ds : List Bool) → has_one ds ≡ true → 1 + length (code_from_run ds) ≤ length ds + reach ds
in_run_bound [] h = absurd (true≢false (sym h))
in_run_bound (d ∷ []) h = omega (arith, reach_some d [] h)
in_run_bound (d ∷ e ∷ ds) h =
    let group = group_bound (e ∷ ds) (code_from_run (e ∷ ds)) (omega arith) (in_run_bound (e ∷ ds)) in
    let rest = in_run_bound (e ∷ ds) in search (rules, reach_some)

pub length-tail-le : (ds : List Bool) → length (tail ds) ≤ length ds + reach ds
length-tail-le [] = omega arith
length-tail-le (d ∷ ds) = group_bound (d ∷ ds) (code_from_run (d ∷ ds)) (omega arith) (in_run_bound (d ∷ ds))

-- past the first digit the reach is one less
reach-rest : (d : Bool) (ds : List Bool) → reach ds ≤ reach (d ∷ ds) - 1
reach-rest d ds = search (rules, reach_some, reach_none)

pub reach-drop-le : (n : ℕ) (ds : List Bool) → reach (drop n ds) ≤ reach ds - n
reach-drop-le (suc n) (d ∷ ds) = omega (arith, reach-drop-le n ds, reach-rest d ds)
reach-drop-le n ds = omega arith

-- a plane of this size takes at most its size and the ranks that have their first one in it
pub length-plane_code-le : (size n : ℕ) (ds : List Bool) → length ds ≡ size → n ≤ size → length (plane_code n ds) + n ≤ size + max n (reach ds)
length-plane_code-le size n ds l h =
    omega (arith, length-append (take n ds) (tail (drop n ds)), length-take n ds, length-drop n ds, length-tail-le (drop n ds), reach-drop-le n ds)

pub length-code_from-le : (size n : ℕ) (planes : List (List Bool)) → n ≤ size → All (λ ds. length ds ≡ size) planes → length (code_from n planes) + n ≤ size * length planes + size
length-code_from-le size n [] h all = omega arith
length-code_from-le size n (ds ∷ planes) h all =
    let l : length ds ≡ size = All-head (λ ds. length ds ≡ size) ds planes all in
    let wide = reach-le ds in
    let rest = length-code_from-le size (max n (reach ds)) planes (omega arith) (All-tail (λ ds. length ds ≡ size) ds planes all) in
    omega (arith, length-append (plane_code n ds) (code_from (max n (reach ds)) planes), length-plane_code-le size n ds l h)

-- the code of p planes of this size has at most size * p + size bits
pub length-code-le : (size : ℕ) (planes : List (List Bool)) → All (λ ds. length ds ≡ size) planes → length (code planes) ≤ size * length planes + size
length-code-le size planes all = omega (arith, length-code_from-le size 0 planes (omega arith) all)
