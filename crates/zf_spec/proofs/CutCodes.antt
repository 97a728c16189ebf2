-- A plane that a budget cuts has a code that is too long for the bits that were left, as its whole plane has.
use Rattle.std.proofs.Common.{rules, ◌≡◌, refl, ap, ℕ, zero, suc, ◌-◌, ◌<◌, ◌≤◌, max, Bool, true, false, List, [], ◌∷◌, length, take, All, arith}
use Rattle.std.{proofs.lemmas.Bool.{cases_lt}, proofs.lemmas.List.Elements.{All-head, All-tail}}
use Rattle.std.proofs.lemmas.List.{length-append, length-take, length-drop, length-replicate, take_at, drop_at}
use Rattle.zf_spec.specs.Planes.{has_one, reach, code_from_run, tail, plane_code, code_from, code}
use Rattle.zf_spec.specs.Kept.{zeros, kept_group, kept_run, kept_tail, cut_plane, kept_planes_from, kept_planes}
use Rattle.zf_spec.proofs.Full.{code_from_run-true, code_from_run-false, tail-some}
use Rattle.zf_spec.{proofs.KeptCases.{kept_tail-one}, proofs.KeptSame.{kept_whole, kept_cut}}
use Rattle.zf_spec.{proofs.PlaneCode.{tail-zeros}, proofs.Reach.{reach_within}}

-- ---- how many digits are kept

length-zeros : (ds : List Bool) → length (zeros ds) ≡ length ds
length-zeros ds = length-replicate (length ds) false

length-kept_group : (left : ℕ) (ds run : List Bool) → length run ≡ length ds → length (kept_group left ds run) ≡ length ds
length-kept_group left ds run long = search (rules, length-zeros)

length-kept_run : (behind : ℕ) (ds : List Bool) → length (kept_run behind ds) ≡ length ds
length-kept_run behind [] = refl
length-kept_run (suc left) (true ∷ e ∷ ds) = ap suc (length-kept_group left (e ∷ ds) (kept_run (left - 1) (e ∷ ds)) (length-kept_run (left - 1) (e ∷ ds)))
length-kept_run (suc behind) (false ∷ e ∷ ds) = ap suc (length-kept_run behind (e ∷ ds))
length-kept_run behind (d ∷ ds) = search (rules, length-zeros)

length-kept_tail : (left : ℕ) (ds : List Bool) → length (kept_tail left ds) ≡ length ds
length-kept_tail left ds = length-kept_group left ds (kept_run (left - 1) ds) (length-kept_run (left - 1) ds)

-- a run with a one keeps a one
kept_run-has_one : (behind : ℕ) (ds : List Bool) → has_one ds ≡ true → has_one (kept_run behind ds) ≡ true
kept_run-has_one behind [] one = one
kept_run-has_one zero (d ∷ ds) one = refl
kept_run-has_one (suc behind) (d ∷ []) one = refl
kept_run-has_one (suc left) (true ∷ e ∷ ds) one = refl
kept_run-has_one (suc behind) (false ∷ e ∷ ds) one = kept_run-has_one behind (e ∷ ds) one

-- ---- what is kept of a run or a tail has a code that is too long where the whole one has

abbrev RunIsCut : List Bool → Type 0
RunIsCut ds = (behind : ℕ) → behind < length (code_from_run ds) → behind < length (code_from_run (kept_run behind ds))

cut_tail_of : (r : ℕ) (ds : List Bool) → RunIsCut ds → r < length (tail ds) → r < length (tail (kept_tail r ds))
cut_tail_of r [] run more = absurd (omega arith)
cut_tail_of zero (d ∷ ds) run more = let one = ap length (tail-zeros (length ds)) in omega arith
cut_tail_of (suc r) (d ∷ ds) run more =
    let left : suc r - 1 ≡ r = omega arith in
    let next = run r in
    let kept = kept_tail-one (suc r) (d ∷ ds) (omega arith) in grind (arith, kept_run-has_one, tail-some)

cut_run : (ds : List Bool) → RunIsCut ds
cut_run (d ∷ e ∷ ds) zero more = let code = ap length (code_from_run-true (zeros (e ∷ ds)) (omega (arith, length-zeros (e ∷ ds)))) in omega arith
cut_run (true ∷ e ∷ ds) (suc left) more =
    let next = cut_tail_of left (e ∷ ds) (cut_run (e ∷ ds)) in
    grind (arith, code_from_run-true, length-kept_tail)
cut_run (false ∷ e ∷ ds) (suc behind) more =
    let next = cut_run (e ∷ ds) behind in grind (arith, code_from_run-false, length-kept_run)
cut_run ds behind more = absurd (omega arith)

cut_tail : (r : ℕ) (ds : List Bool) → r < length (tail ds) → r < length (tail (kept_tail r ds))
cut_tail r ds more = cut_tail_of r ds (cut_run ds) more

-- ---- of a plane

cut_plane_code : (r n : ℕ) (ds : List Bool) → n ≤ length ds → r < length (plane_code n ds) → r < length (plane_code n (cut_plane r n ds))
cut_plane_code r n ds within more = search (rules, cut_tail, cases_lt, length-append, length-zeros, length-take, length-drop, take_at, drop_at)

-- ---- of planes: where the codes of the top ones are too long for a budget, those of what it keeps are too

planes_cut : (size r n : ℕ) (ps : List (List Bool)) (m : ℕ) → n ≤ size → All (λ ds. length ds ≡ size) ps → r < length (code_from n (take m ps))
    → r < length (code_from n (take m (kept_planes_from r n ps)))
planes_cut size r n ps zero within all more = absurd (omega arith)
planes_cut size r n [] (suc m) within all more = absurd (omega arith)
planes_cut size r n (ds ∷ ps) (suc m) within all more =
    let long : length ds ≡ size = All-head (λ ds. length ds ≡ size) ds ps all in
    let sizes = All-tail (λ ds. length ds ≡ size) ds ps all in
    let next = planes_cut size (r - length (plane_code n ds)) (max n (reach ds)) ps m
    (reach_within size n ds within long) sizes in
    search (rules, kept_cut, kept_whole, length-append, cut_plane_code, cases_lt)

pub kept_planes-too_long : (size budget : ℕ) (ps : List (List Bool)) (m : ℕ) → All (λ ds. length ds ≡ size) ps → budget < length (code (take m ps))
    → budget < length (code (take m (kept_planes budget ps)))
kept_planes-too_long size budget ps m all more = planes_cut size budget 0 ps m (omega arith) all more
