-- What the decoder makes of planes: one plane, and then those below.
use Rattle.std.proofs.Common.{rules, ◌≡◌, ℕ, zero, suc, ◌⊎◌, ◌+◌, ◌-◌, ◌<◌, ◌≤◌, ⊎_elim, min, max, Bool, false, List, [], ◌∷◌, length, take, drop, replicate, refl, ap, ◌∙◌, arith}
use Rattle.std.{proofs.lemmas.Bool.{cases_lt}}
use Rattle.std.proofs.lemmas.List.{append-nil, length-append, drop-take}
use Rattle.zf_spec.specs.Planes.{reach, plane_code}
use Rattle.zf_spec.{specs.Kept.{kept_plane}, specs.ReadPlanes.{plane_in, planes_in_from}}
use Rattle.zf_spec.proofs.Reach.{reach_within}
use Rattle.zf_spec.proofs.KeptSame.{kept_whole, kept_planes_from-none}
use Rattle.zf_spec.proofs.Full.{length-plane_in, length-planes_in_from, planes_in_from-length}
use Rattle.zf_planes.specs.Decoding.{plane_ahead, plane_bits, planes_ahead, planes_bits}

pub planes_none : (r size n : ℕ) (s : List Bool) → (planes_bits r 0 size n s ≡ 0) × (planes_ahead r 0 size n s ≡ [])
unfolding planes_bits planes_ahead
planes_none r size n s = (omega arith, refl)

-- where no bit is left, all planes are zero, whatever ranks have had a one
planes_ahead-spent : (r p size n : ℕ) (s : List Bool) → 1 ≤ size → n ≤ size → r ≡ 0 → planes_ahead r p size n s ≡ replicate p (replicate size false)
unfolding planes_ahead
planes_ahead-spent r p size n s some within spent =
    rw spent (kept_planes_from-none size n (planes_in_from p size n []) some (planes_in_from-length p size n [] within) ∙ ap (λ k. replicate k (replicate size false)) (length-planes_in_from p size n []))

planes_bits-spent : (r p size n : ℕ) (s : List Bool) → r ≡ 0 → planes_bits r p size n s ≡ 0
unfolding planes_bits
planes_bits-spent r p size n s spent = omega arith

-- so nothing is read where no bit or no plane is left
pub planes_over : (r p size n : ℕ) (s : List Bool) → 1 ≤ size → n ≤ size → (r ≡ 0) ⊎ (p ≡ 0) → (planes_bits r p size n s ≡ 0) × (planes_ahead r p size n s ≡ replicate p (replicate size false))
planes_over r p size n s some within =
    ⊎_elim (λ e. (planes_bits-spent r p size n s e, planes_ahead-spent r p size n s some within e)) (λ (e : p ≡ 0). rw e (planes_none r size n s))

-- a plane takes no more than it takes with those below
pub one_bits-le : (r p size n : ℕ) (s : List Bool) → 0 < p → planes_bits r 1 size n s ≤ planes_bits r p size n s
unfolding planes_bits
one_bits-le r zero size n s some = absurd (omega arith)
one_bits-le r (suc p) size n s some = search (rules, length-append)

pub planes_bits-one : (r size n : ℕ) (s : List Bool) → planes_bits r 1 size n s ≡ plane_bits r size n s
unfolding plane_bits planes_bits
planes_bits-one r size n s = search (rules, append-nil)

-- a plane, and the planes below it, which know the ranks that have had a one from what was read
pub record NextPlane (r p size n : ℕ) (s ds : List Bool) (count : ℕ) : Type 0 where
  pub bits : planes_bits r (suc p) size n s ≡ count + planes_bits (r - count) p size (max n (reach ds)) (drop count s)
  pub digits : planes_ahead r (suc p) size n s ≡ ds ∷ planes_ahead (r - count) p size (max n (reach ds)) (drop count s)

next_whole : (r p size n : ℕ) (s : List Bool) → n ≤ size → length (plane_code n (plane_in size n (take r s))) ≤ r
    → NextPlane r p size n s (plane_in size n (take r s)) (length (plane_code n (plane_in size n (take r s))))
unfolding planes_bits planes_ahead
next_whole r p size n s within fits =
    let ds = plane_in size n (take r s) in
    let count = length (plane_code n ds) in
    let r' : r ≡ count + (r - count) = omega arith in search (rules, drop-take, length-append, kept_whole)

next_cut : (r p size n : ℕ) (s : List Bool) → 1 ≤ size → n ≤ size → r < length (plane_code n (plane_in size n (take r s))) → length (plane_ahead r size n s) ≡ size
    → NextPlane r p size n s (plane_ahead r size n s) r
unfolding planes_bits planes_ahead plane_ahead
next_cut r p size n s some within cut long =
    search (rules, reach_within, length-plane_in, kept_planes_from-none, planes_in_from-length, length-planes_in_from, planes_bits-spent, length-append, planes_ahead-spent)

pub next_plane : (r p size n : ℕ) (s : List Bool) → 1 ≤ size → n ≤ size → length (plane_ahead r size n s) ≡ size
    → NextPlane r p size n s (plane_ahead r size n s) (plane_bits r size n s)
unfolding plane_ahead plane_bits
next_plane r p size n s some within long = ⊎_elim
    (λ cut.
    let count : min r (length (plane_code n ds)) ≡ r = omega arith in
    rw count (next_cut r p size n s some within cut long))
    (λ fits.
    let count : min r (length (plane_code n ds)) ≡ length (plane_code n ds) = omega arith in
    let same : kept_plane r n ds ≡ ds = kept_whole r n ds fits in
    rw (count, same) (next_whole r p size n s within fits))
    (cases_lt r (length (plane_code n ds)))
  where
    ds : List Bool
    ds = plane_in size n (take r s)
