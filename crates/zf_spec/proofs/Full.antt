-- The only planes whose code begins a list of bits.
use Rattle.std.proofs.Common.{rules, ◌≡◌, refl, sym, ap, subst, ℕ, zero, suc, ◌-◌, ◌≤◌, max, Bool, true, false, List, [], ◌∷◌, length, take, drop, replicate, All, take_at, drop_at, take-append-drop, arith}
use Rattle.std.proofs.lemmas.Bool.{true≢false, false≢true}
use Rattle.std.proofs.lemmas.List.{length-append, length-take, length-drop, length-replicate}
use Rattle.std.proofs.lemmas.List.Elements.{All-nil, All-cons, All-head, All-tail}
use Rattle.zf_spec.specs.Planes.{has_one, reach, group, code_from_run, tail, plane_code, code_from, code}
use Rattle.zf_spec.specs.ReadPlanes.{Begins, first_bits, group_in, run_in, tail_in, plane_in, planes_in_from, planes_in}
use Rattle.zf_spec.proofs.Beginnings.{length-first_bits, first_begins, begins_is_first, begins_append, begins_prefix, begins_rest}
use Rattle.zf_spec.{proofs.Reach.{zeros_from_none, reach_within}, proofs.PlaneCode.{tail-zeros}}

-- ---- runs and tails

pub code_from_run-true : (ds : List Bool) → 1 ≤ length ds → code_from_run (true ∷ ds) ≡ true ∷ tail ds
code_from_run-true ds h = grind arith

pub code_from_run-false : (ds : List Bool) → 1 ≤ length ds → code_from_run (false ∷ ds) ≡ false ∷ code_from_run ds
code_from_run-false ds h = grind arith

pub tail-some : (ds : List Bool) → has_one ds ≡ true → tail ds ≡ true ∷ code_from_run ds
tail-some ds h = grind arith

length-group_in : (m : ℕ) (s : List Bool) → ((t : List Bool) → length (run_in m t) ≡ m) → length (group_in m s (run_in m)) ≡ m
length-group_in m s run = grind (arith, length-replicate)

pub length-run_in : (m : ℕ) (s : List Bool) → length (run_in m s) ≡ m
length-run_in zero s = refl
length-run_in (suc zero) s = refl
length-run_in (suc (suc m)) [] = ap suc (length-run_in (suc m) [])
length-run_in (suc (suc m)) (false ∷ s) = ap suc (length-run_in (suc m) s)
length-run_in (suc (suc m)) (true ∷ s) = ap suc (length-group_in (suc m) s (length-run_in (suc m)))

pub length-tail_in : (m : ℕ) (s : List Bool) → length (tail_in m s) ≡ m
length-tail_in m s = length-group_in m s (length-run_in m)

-- ---- the code of these digits begins the bits

-- of a run: it has a one, and its code begins s
abbrev pub FullRun : ℕ → List Bool → Type 0
FullRun m s = (has_one (run_in m s) ≡ true) × Begins (code_from_run (run_in m s)) s

tail_of_zeros : (m : ℕ) (s : List Bool) → Begins (false ∷ []) s → Begins (tail (replicate m false)) s
tail_of_zeros m s h = search (rules, tail-zeros)

full_group_begins : (m : ℕ) (s : List Bool) → 1 ≤ m → ((t : List Bool) → FullRun m t) → Begins (tail (group_in m s (run_in m))) s
full_group_begins m s h run = search (rules, tail_of_zeros, tail-some, run)

pub full_run_begins : (m : ℕ) (s : List Bool) → FullRun (suc m) s
full_run_begins zero s = (refl, tt)
full_run_begins (suc m) (true ∷ s) =
    let code = code_from_run-true (tail_in (suc m) s) (omega (arith, length-tail_in (suc m) s)) in
    (refl, subst (λ c. Begins c (true ∷ s)) (sym code) (refl, full_group_begins (suc m) s (omega arith) (full_run_begins m)))
full_run_begins (suc m) s = let rest = full_run_begins m in search (rules, code_from_run-false, length-run_in)

pub full_tail_begins : (m : ℕ) (s : List Bool) → Begins (tail (tail_in m s)) s
full_tail_begins zero s = search rules
full_tail_begins (suc m) s = full_group_begins (suc m) s (omega arith) (full_run_begins m)

-- ---- no other digits have such a code

-- a list whose group begins s, where what is known of its run is a function
full_group_only : (ds s : List Bool) → ((t : List Bool) → has_one ds ≡ true → Begins (code_from_run ds) t → ds ≡ run_in (length ds) t) → Begins (group ds (code_from_run ds)) s → ds ≡ tail_in (length ds) s
full_group_only ds s run h = search (rules, zeros_from_none, true≢false, false≢true)

full_run_only : (ds t : List Bool) → has_one ds ≡ true → Begins (code_from_run ds) t → ds ≡ run_in (length ds) t
full_run_only (true ∷ []) t e h = refl
full_run_only (true ∷ d ∷ ds) (true ∷ t) e h = ap (λ cs. true ∷ cs) (full_group_only (d ∷ ds) t (full_run_only (d ∷ ds)) h.1)
full_run_only (false ∷ d ∷ ds) [] e h = ap (λ cs. false ∷ cs) (full_run_only (d ∷ ds) [] e h.1)
full_run_only (false ∷ d ∷ ds) (false ∷ t) e h = ap (λ cs. false ∷ cs) (full_run_only (d ∷ ds) t e h.1)
full_run_only ds t e h = search (rules, false≢true, true≢false)

pub full_tail_only : (ds s : List Bool) → Begins (tail ds) s → ds ≡ tail_in (length ds) s
full_tail_only [] s h = search rules
full_tail_only (d ∷ ds) s h = full_group_only (d ∷ ds) s (full_run_only (d ∷ ds)) h

-- ---- planes

pub length-plane_in : (size n : ℕ) (s : List Bool) → n ≤ size → length (plane_in size n s) ≡ size
length-plane_in size n s h = omega (arith, length-append (first_bits n s) (tail_in (size - n) (drop n s)), length-first_bits n s, length-tail_in (size - n) (drop n s))

pub full_plane_begins : (size n : ℕ) (s : List Bool) → Begins (plane_code n (plane_in size n s)) s
full_plane_begins size n s = search (rules, take_at, drop_at, length-first_bits, begins_append, first_begins, full_tail_begins)

pub full_plane_only : (n : ℕ) (ds s : List Bool) → n ≤ length ds → Begins (plane_code n ds) s → ds ≡ plane_in (length ds) n s
full_plane_only n ds s h b =
    let l : length (take n ds) ≡ n = omega (arith, length-take n ds) in
    let m : length (drop n ds) ≡ length ds - n = length-drop n ds in
    search (rules, begins_is_first, begins_prefix, full_tail_only, begins_rest, take-append-drop)

pub length-planes_in_from : (p size n : ℕ) (s : List Bool) → length (planes_in_from p size n s) ≡ p
length-planes_in_from zero size n s = refl
length-planes_in_from (suc p) size n s = let ds = plane_in size n s in ap suc (length-planes_in_from p size (max n (reach ds)) (drop (length (plane_code n ds)) s))

-- the ranks with a one so far are ranks of the plane

pub planes_in_from-length : (p size n : ℕ) (s : List Bool) → n ≤ size → All (λ ds. length ds ≡ size) (planes_in_from p size n s)
planes_in_from-length zero size n s h = All-nil (λ ds. length ds ≡ size)
planes_in_from-length (suc p) size n s h = let next = planes_in_from-length p size in search (rules, All-cons, length-plane_in, reach_within)

full_from_begins : (p size n : ℕ) (s : List Bool) → Begins (code_from n (planes_in_from p size n s)) s
full_from_begins zero size n s = tt
full_from_begins (suc p) size n s = let next = full_from_begins p size in search (rules, begins_append, full_plane_begins)

full_from_only : (size n : ℕ) (ps : List (List Bool)) (s : List Bool) → n ≤ size → All (λ ds. length ds ≡ size) ps → Begins (code_from n ps) s → ps ≡ planes_in_from (length ps) size n s
full_from_only size n [] s h all b = refl
full_from_only size n (ds ∷ ps) s h all b =
    let l : length ds ≡ size = All-head (λ ds. length ds ≡ size) ds ps all in
    let next = full_from_only size (max n (reach ds)) ps (drop (length (plane_code n ds)) s) (reach_within size n ds h l) (All-tail (λ ds. length ds ≡ size) ds ps all) in
    search (rules, full_plane_only, begins_prefix, begins_rest)

pub length-planes_in : (p size : ℕ) (s : List Bool) → length (planes_in p size s) ≡ p
length-planes_in p size s = length-planes_in_from p size 0 s

pub planes_in-length : (p size : ℕ) (s : List Bool) → All (λ ds. length ds ≡ size) (planes_in p size s)
planes_in-length p size s = planes_in_from-length p size 0 s (omega arith)

-- the code of the full planes begins s
pub full_begins : (p size : ℕ) (s : List Bool) → Begins (code (planes_in p size s)) s
full_begins p size s = full_from_begins p size 0 s

-- and that of no other planes of this size does
pub full_only : (size : ℕ) (ps : List (List Bool)) (s : List Bool) → All (λ ds. length ds ≡ size) ps → Begins (code ps) s → ps ≡ planes_in (length ps) size s
full_only size ps s all b = full_from_only size 0 ps s (omega arith) all b
