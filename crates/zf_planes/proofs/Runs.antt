-- A plane's tail n digits into it, as a group bit and a run.
use Rattle.std.proofs.Common.{rules, ◌≡◌, ℕ, suc, zero, ◌+◌, ◌-◌, ◌<◌, ◌≤◌, min, Bool, true, false, cond, List, [], ◌∷◌, ◌++◌, length, take, drop, replicate, refl, sym, ap, ◌∙◌, arith, length-append}
use Rattle.std.proofs.lemmas.List.{length-replicate, length-drop, drop-drop, append-nil, take_at, append_assoc}
use Rattle.zf_spec.specs.Planes.{has_one, reach, code_from_run, tail}
use Rattle.zf_spec.proofs.Reach.{has_one-append_one, zeros_from_none, reach_none}
use Rattle.zf_spec.proofs.PlaneCode.{tail-zeros, tail-first, tail-last}

-- ---- one digit more at the end

has_one-push_zero : (ds : List Bool) → has_one (ds ++ false ∷ []) ≡ has_one ds
has_one-push_zero (false ∷ ds) = has_one-push_zero ds
has_one-push_zero ds = refl

pub reach-push : (ds : List Bool) → reach (ds ++ true ∷ []) ≡ length ds + 1
reach-push [] = refl
reach-push (true ∷ ds) = let more = reach-push ds in omega arith
reach-push (false ∷ ds) = let more = reach-push ds in rw (has_one-append_one ds []) (omega arith)

pub reach-push_zero : (ds : List Bool) → reach (ds ++ false ∷ []) ≡ reach ds
reach-push_zero [] = refl
reach-push_zero (true ∷ ds) = ap suc (reach-push_zero ds)
reach-push_zero (false ∷ ds) = rw (has_one-push_zero ds, reach-push_zero ds) refl

-- ---- below its reach a plane has a one to come, and from there on it has none

chosen : (b : Bool) (n m : ℕ) → n < cond b m 0 → b ≡ true
chosen true n m below = refl
chosen false n m below = absurd (omega arith)

not_chosen : (b : Bool) (m : ℕ) → cond b (suc m) 0 ≤ 0 → b ≡ false
not_chosen true m above = absurd (omega arith)
not_chosen false m above = refl

below_rest : (b : Bool) (n m : ℕ) → suc n < cond b (suc m) 0 → n < m
below_rest true n m below = omega arith
below_rest false n m below = absurd (omega arith)

above_rest : (ds : List Bool) (n : ℕ) (b : Bool) → has_one ds ≡ b → cond b (suc (reach ds)) 0 ≤ suc n → reach ds ≤ n
above_rest ds n true e above = omega arith
above_rest ds n false e above = let none = reach_none ds e in omega arith

pub has_one-drop : (n : ℕ) (ds : List Bool) → n < reach ds → has_one (drop n ds) ≡ true
has_one-drop n [] below = absurd (omega arith)
has_one-drop zero (d ∷ ds) below = chosen (has_one (d ∷ ds)) 0 (suc (reach ds)) below
has_one-drop (suc n) (d ∷ ds) below = has_one-drop n ds (below_rest (has_one (d ∷ ds)) n (reach ds) below)

pub has_one-drop_none : (n : ℕ) (ds : List Bool) → reach ds ≤ n → has_one (drop n ds) ≡ false
has_one-drop_none zero (d ∷ ds) above = not_chosen (has_one (d ∷ ds)) (reach ds) above
has_one-drop_none (suc n) (true ∷ ds) above = has_one-drop_none n ds (omega arith)
has_one-drop_none (suc n) (false ∷ ds) above = has_one-drop_none n ds (above_rest ds n (has_one ds) refl above)
has_one-drop_none n ds above = refl

-- ---- the tail

-- a group bit of zero ends the plane
pub tail_none : (ds : List Bool) → 0 < length ds → has_one ds ≡ false → tail ds ≡ false ∷ []
tail_none [] some none = absurd (omega arith)
tail_none (d ∷ ds) some none = ap tail (zeros_from_none (d ∷ ds) none) ∙ tail-zeros (length ds)

-- some digits have at least a group bit
pub tail_some : (ds : List Bool) → 0 < length ds → 0 < length (tail ds)
tail_some [] some = some
tail_some (d ∷ ds) some = elim (has_one (d ∷ ds)) as (λ b. 0 < length (cond b (true ∷ code_from_run (d ∷ ds)) (false ∷ []))) [ true ↦ omega arith | false ↦ omega arith ]

-- the digits of a run that are written, those up to and with its one but for that of the last rank, and the tail behind them
run_digits : (j k : ℕ) (rest : List Bool) → k ≡ min (j + 1) (length (replicate j false ++ true ∷ rest) - 1)
    → tail (replicate j false ++ true ∷ rest) ≡ true ∷ (take k (replicate j false ++ true ∷ rest) ++ tail rest)
run_digits j k [] e = search (rules, length-append, length-replicate, tail-last, append-nil, take_at)
run_digits j k (d ∷ rest) e =
    let zeros = replicate j false in
    let all : k ≡ j + 1 = omega (arith, length-append zeros (true ∷ d ∷ rest), length-replicate j false) in
    let prefix : take (j + 1) (zeros ++ true ∷ d ∷ rest) ≡ zeros ++ true ∷ [] =
    ap (take (j + 1)) (sym (append_assoc zeros (true ∷ []) (d ∷ rest))) ∙ take_at (zeros ++ true ∷ []) (d ∷ rest) (j + 1) (length-append zeros (true ∷ []) ∙ ap (λ n. n + 1) (length-replicate j false)) in
    search (rules, tail-first, append_assoc)

-- the tail n digits into a plane: its run ends before m
pub tail_run_at : (ds : List Bool) (n j m : ℕ) → j < length (drop n ds) → drop n ds ≡ replicate j false ++ true ∷ drop (j + 1) (drop n ds) → m ≡ min (n + j + 1) (length ds - 1)
    → tail (drop n ds) ≡ true ∷ (take (m - n) (drop n ds) ++ tail (drop (n + j + 1) ds))
tail_run_at ds n j m within split e = search (rules, length-drop, run_digits, drop-drop)
