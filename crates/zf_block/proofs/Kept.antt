-- Planes that a budget keeps whole, and planes that are missing below.
use Rattle.std.proofs.Common.{rules, ◌≡◌, refl, ap, ℕ, zero, suc, ◌-◌, ◌≤◌, max, Bool, false, List, [], ◌∷◌, ◌++◌, length, take, get_or, replicate, arith}
use Rattle.std.{proofs.lemmas.List.{length-append, take_all}, specs.Int.{Width}}
use Rattle.zf_spec.{specs.Planes.{reach, plane_code, code, code_from}, specs.Codes.{coefficients_of}}
use Rattle.zf_spec.{specs.Kept.{kept_planes_from, kept_planes}, proofs.Counting.{map-upto_same}}
use Rattle.zf_spec.proofs.KeptSame.{kept_whole}
use Rattle.zf_spec.proofs.PlaneDigits.{digits_at, length-digits_at, get_or-digits_at, coefficients_of-is, get_or-blanks}

-- ---- planes whose codes fit a budget are kept as they are

length-kept_from : (r n : ℕ) (ps : List (List Bool)) → length (kept_planes_from r n ps) ≡ length ps
length-kept_from r n [] = refl
length-kept_from r n (ds ∷ ps) = ap suc (length-kept_from (r - length (plane_code n ds)) (max n (reach ds)) ps)

pub length-kept_planes : (budget : ℕ) (ps : List (List Bool)) → length (kept_planes budget ps) ≡ length ps
length-kept_planes budget ps = length-kept_from budget 0 ps

kept_from-top : (r n : ℕ) (ps : List (List Bool)) (m : ℕ) → length (code_from n (take m ps)) ≤ r → take m (kept_planes_from r n ps) ≡ take m ps
kept_from-top r n ps zero fits = refl
kept_from-top r n [] (suc m) fits = refl
kept_from-top r n (ds ∷ ps) (suc m) fits =
    let c = plane_code n ds in
    let long = length-append c (code_from (max n (reach ds)) (take m ps)) in
    let behind = kept_from-top (r - length c) (max n (reach ds)) ps m (omega (arith, long, fits)) in
    cc (behind, kept_whole r n ds (omega (arith, long, fits)))

-- the top ones
pub kept_planes-top : (budget : ℕ) (ps : List (List Bool)) (m : ℕ) → length (code (take m ps)) ≤ budget → take m (kept_planes budget ps) ≡ take m ps
kept_planes-top budget ps m fits = kept_from-top budget 0 ps m fits

-- all
pub kept_planes-whole : (r : ℕ) (ps : List (List Bool)) → length (code ps) ≤ r → kept_planes r ps ≡ ps
kept_planes-whole r ps fits =
    let all = take_all (length ps) ps (omega arith) in
    let kept = take_all (length ps) (kept_planes r ps) (omega (arith, length-kept_planes r ps)) in
    cc (all, kept, kept_planes-top r ps (length ps) (rw all fits))

-- ---- planes of zeros below

-- they have the digits that planes which are missing have
same_at : (ps : List (List Bool)) (n size k r : ℕ) → get_or (get_or (ps ++ replicate n (replicate size false)) k []) r false ≡ get_or (get_or ps k []) r false
same_at [] n size k r = get_or-blanks n size k r
same_at (p ∷ ps) n size zero r = refl
same_at (p ∷ ps) n size (suc k) r = same_at ps n size k r

digits_at-zeros : (w : ℕ) (ps : List (List Bool)) (n size r : ℕ) → digits_at w (ps ++ replicate n (replicate size false)) r ≡ digits_at w ps r
digits_at-zeros w ps n size r = search (rules, length-digits_at, digits_at, get_or-digits_at, same_at)

pub coefficients_of-zeros : (w : Width) (d : ℕ) (ps : List (List Bool)) (n size : ℕ) → coefficients_of w d (ps ++ replicate n (replicate size false)) ≡ coefficients_of w d ps
coefficients_of-zeros w d ps n size = search (rules, coefficients_of-is, map-upto_same, digits_at, digits_at-zeros)
