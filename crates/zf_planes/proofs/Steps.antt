-- One step of reading a tail: at its group bit, or at a bit of a run.
use Rattle.std.proofs.Common.{rules, ◌≡◌, ℕ, suc, zero, ◌-◌, ◌<◌, ◌≤◌, ◌⊎◌, ⊎_elim, Bool, true, false, List, [], ◌∷◌, length, take, replicate, refl, ap, ◌∙◌, arith}
use Rattle.std.proofs.lemmas.List.{length-replicate}
use Rattle.zf_spec.{specs.Planes.{tail}, specs.Kept.{kept_run, kept_tail}, specs.ReadPlanes.{run_in, tail_in}}
use Rattle.zf_spec.{proofs.Reach.{has_one-zeros}, proofs.PlaneCode.{tail-zeros}}
use Rattle.zf_spec.proofs.KeptCases.{kept_tail-zeros, kept_tail-one}
use Rattle.zf_spec.proofs.Full.{length-run_in, length-tail_in, full_run_begins, code_from_run-true, code_from_run-false, tail-some}
use Rattle.zf_planes.specs.Decoding.{tail_ahead, tail_bits, run_ahead, run_bits}

-- ---- at a group bit: how many bits are taken, and what they make

none_full : (s : List Bool) → tail_in 0 s ≡ []
none_full [] = refl
none_full (false ∷ s) = refl
none_full (true ∷ s) = refl

-- no bit or no digit is left
tail_spent : (m : ℕ) (s : List Bool) → (tail_bits 0 m s ≡ 0) × (tail_ahead 0 m s ≡ replicate m false)
unfolding tail_bits tail_ahead
tail_spent m s = (omega arith, ap (λ n. replicate n false) (length-tail_in m []))

tail_none : (r : ℕ) (s : List Bool) → (tail_bits r 0 s ≡ 0) × (tail_ahead r 0 s ≡ [])
unfolding tail_bits tail_ahead
tail_none r s =
    let none = ap (λ (ds : List Bool). length (tail ds)) (none_full (take r s)) in
    (omega arith, ap (kept_tail r) (none_full (take r s)) ∙ kept_tail-zeros r [] refl)

pub tail_over : (left m : ℕ) (s : List Bool) → (left ≡ 0) ⊎ (m ≡ 0) → (tail_bits left m s ≡ 0) × (tail_ahead left m s ≡ replicate m false)
tail_over left m s = ⊎_elim (λ (e : left ≡ 0). rw e (tail_spent m s)) (λ (e : m ≡ 0). rw e (tail_none left s))

-- a group bit of zero ends the plane
pub tail_end : (left m : ℕ) (s t : List Bool) → 0 < left → 0 < m → s ≡ false ∷ t → (tail_bits left m s ≡ 1) × (tail_ahead left m s ≡ replicate m false)
unfolding tail_bits tail_ahead
tail_end (suc r) (suc m) s t some digit e =
    let one = ap length (tail-zeros m) in
    rw e (omega arith, kept_tail-zeros (suc r) (replicate (suc m) false) (has_one-zeros (suc m)) ∙ ap (λ n. replicate n false) (length-replicate (suc m) false))
tail_end left m s t some digit e = absurd (omega arith)

-- one leads to a run
pub tail_run : (left m : ℕ) (s t : List Bool) → 0 < left → 0 < m → s ≡ true ∷ t → (tail_bits left m s ≡ suc (run_bits (left - 1) m t)) × (tail_ahead left m s ≡ run_ahead (left - 1) m t)
unfolding tail_bits tail_ahead run_bits run_ahead
tail_run (suc r) (suc m) s t some digit e =
    let less : suc r - 1 ≡ r = omega arith in
    rw (e, less) (search (rules, kept_tail-one, tail-some, full_run_begins))
tail_run left m s t some digit e = absurd (omega arith)

-- one that is not there is needed
pub tail_short : (left m : ℕ) (s : List Bool) → 0 < left → 0 < m → s ≡ [] → 1 ≤ tail_bits left m s
unfolding tail_bits
tail_short (suc r) (suc m) s some digit e = let one = ap length (tail-zeros m) in rw e (omega arith)
tail_short left m s some digit e = absurd (omega arith)

-- ---- in a run

kept_run-true : (r : ℕ) (ds : List Bool) → 1 ≤ length ds → kept_run (suc r) (true ∷ ds) ≡ true ∷ kept_tail r ds
kept_run-true r [] some = absurd (omega arith)
kept_run-true r (d ∷ ds) some = refl

kept_run-false : (r : ℕ) (ds : List Bool) → 1 ≤ length ds → kept_run (suc r) (false ∷ ds) ≡ false ∷ kept_run r ds
kept_run-false r [] some = absurd (omega arith)
kept_run-false r (d ∷ ds) some = refl

-- no bit is left: the one stands here
run_spent : (m : ℕ) (s : List Bool) → (run_bits 0 (suc m) s ≡ 0) × (run_ahead 0 (suc m) s ≡ true ∷ replicate m false)
unfolding run_bits run_ahead
run_spent zero s = (omega arith, refl)
run_spent (suc m) s = (omega arith, ap (λ n. true ∷ replicate n false) (length-run_in (suc m) []))

-- the last rank: its one is implied
run_last : (r : ℕ) (s : List Bool) → (run_bits r 1 s ≡ 0) × (run_ahead r 1 s ≡ true ∷ [])
unfolding run_bits run_ahead
run_last zero s = (omega arith, refl)
run_last (suc r) s = (omega arith, refl)

-- so in both the one has no bit of its own
pub run_stands : (left m : ℕ) (s : List Bool) → 0 < m → (left ≡ 0) ⊎ (m ≡ 1) → (run_bits left m s ≡ tail_bits left (m - 1) s) × (run_ahead left m s ≡ true ∷ tail_ahead left (m - 1) s)
run_stands left zero s digit here = absurd (omega arith)
run_stands left (suc m) s digit here =
    let less : suc m - 1 ≡ m = omega arith in
    ⊎_elim
    (λ (e : left ≡ 0). let a = run_spent m s in let b = tail_spent m s in rw (e, less) (cc, cc))
    (λ (e : suc m ≡ 1). let a = run_last left s in let b = tail_none left s in let z : m ≡ 0 = omega arith in rw (less, z) (cc, cc))
    here

pub run_one : (left m : ℕ) (s t : List Bool) → 0 < left → 1 < m → s ≡ true ∷ t → (run_bits left m s ≡ suc (tail_bits (left - 1) (m - 1) t)) × (run_ahead left m s ≡ true ∷ tail_ahead (left - 1) (m - 1) t)
unfolding run_bits run_ahead tail_bits tail_ahead
run_one (suc r) (suc (suc m)) s t some digits e = search (rules, code_from_run-true, length-tail_in, kept_run-true)
run_one left m s t some digits e = absurd (omega arith)

pub run_zero : (left m : ℕ) (s t : List Bool) → 0 < left → 1 < m → s ≡ false ∷ t → (run_bits left m s ≡ suc (run_bits (left - 1) (m - 1) t)) × (run_ahead left m s ≡ false ∷ run_ahead (left - 1) (m - 1) t)
unfolding run_bits run_ahead
run_zero (suc r) (suc (suc m)) s t some digits e =
    let less : suc r - 1 ≡ r = omega arith in
    let fewer : suc (suc m) - 1 ≡ suc m = omega arith in
    let long = length-run_in (suc m) (take r t) in
    rw (e, less, fewer) (search (rules, code_from_run-false, length-run_in), kept_run-false r (run_in (suc m) (take r t)) (omega arith))
run_zero left m s t some digits e = absurd (omega arith)

-- a bit that is not there is needed
pub run_short : (left m : ℕ) (s : List Bool) → 0 < left → 1 < m → s ≡ [] → 1 ≤ run_bits left m s
unfolding run_bits
run_short (suc r) (suc (suc m)) s some digits e = rw e (search (rules, code_from_run-false, length-run_in))
run_short left m s some digits e = absurd (omega arith)
