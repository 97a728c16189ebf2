-- What the decoder makes of one plane: its first digits as they are, and then a tail.
use Rattle.std.proofs.Common.{rules, ◌≡◌, ℕ, suc, zero, ◌+◌, ◌-◌, ◌≤◌, ⊎_elim, min, Bool, true, false, List, [], ◌∷◌, ◌++◌, length, take, drop, replicate, refl, sym, ap, ◌∙◌, arith, drop_at, append-nil, take-append-drop}
use Rattle.std.proofs.lemmas.Bool.{false≢true, cases_lt}
use Rattle.std.proofs.lemmas.List.{length-take, take-take, length-drop, drop-take, drop_all, take-append-le}
use Rattle.zf_spec.{specs.Planes.{has_one, code_from_run, tail, plane_code}, proofs.Reach.{zeros_from_none}}
use Rattle.zf_spec.specs.Kept.{kept_run, kept_tail, cut_plane, kept_plane}
use Rattle.zf_spec.{specs.ReadPlanes.{first_bits, tail_in, plane_in}, proofs.KeptSame.{kept_whole, kept_cut}}
use Rattle.zf_spec.proofs.KeptCases.{kept_tail-zeros, kept_tail-one}
use Rattle.zf_spec.proofs.Beginnings.{length-first_bits, begins_itself}
use Rattle.zf_spec.proofs.Full.{length-plane_in, full_plane_only}
use Rattle.zf_planes.specs.Decoding.{tail_ahead, tail_bits, plane_ahead, plane_bits}
use Rattle.zf_planes.proofs.Lengths.{length-plane_code}

-- ---- a tail that fits is kept whole

kept_group_fits : (r : ℕ) (d : Bool) (ds : List Bool) → ((k : ℕ) → has_one (d ∷ ds) ≡ true → length (code_from_run (d ∷ ds)) ≤ k → kept_run k (d ∷ ds) ≡ d ∷ ds)
    → length (tail (d ∷ ds)) ≤ r → kept_tail r (d ∷ ds) ≡ d ∷ ds
kept_group_fits r d ds run fits = search (rules, kept_tail-one, kept_tail-zeros, zeros_from_none)

kept_run_fits : (d : Bool) (ds : List Bool) (r : ℕ) → has_one (d ∷ ds) ≡ true → length (code_from_run (d ∷ ds)) ≤ r → kept_run r (d ∷ ds) ≡ d ∷ ds
kept_run_fits true [] zero one fits = refl
kept_run_fits true [] (suc r) one fits = refl
kept_run_fits false [] r one fits = absurd (false≢true one)
kept_run_fits true (e ∷ ds) (suc r) one fits = ap (λ es. true ∷ es) (kept_group_fits r e ds (λ k. kept_run_fits e ds k) (omega arith))
kept_run_fits false (e ∷ ds) (suc r) one fits = ap (λ es. false ∷ es) (kept_run_fits e ds r one (omega arith))
kept_run_fits d ds r one fits = absurd (omega arith)

kept_tail_fits : (r : ℕ) (ds : List Bool) → length (tail ds) ≤ r → kept_tail r ds ≡ ds
kept_tail_fits r [] fits = kept_tail-zeros r [] refl
kept_tail_fits r (d ∷ ds) fits = kept_group_fits r d ds (λ k. kept_run_fits d ds k) fits

-- so a plane is what it is where it is cut, also where it is not
kept_as_cut : (r n : ℕ) (ds : List Bool) → n ≤ length ds → kept_plane r n ds ≡ cut_plane r n ds
kept_as_cut r n ds within = ⊎_elim (λ cut. kept_cut r n ds cut) fits (cases_lt r (length (plane_code n ds)))
  where
    fits : length (plane_code n ds) ≤ r → kept_plane r n ds ≡ cut_plane r n ds
    fits enough =
        let long = length-plane_code n ds within in
        let q : min n r ≡ n = omega arith in
        let none : length (take n ds) ≤ n = omega (arith, length-take n ds) in
        kept_whole r n ds enough
        ∙ sym (search (rules, drop_all, append-nil, kept_tail_fits, take-append-drop))

-- ---- the first digits

first_bits-nil : (n : ℕ) → first_bits n [] ≡ replicate n false
first_bits-nil zero = refl
first_bits-nil (suc n) = ap (λ ds. false ∷ ds) (first_bits-nil n)

-- the first bits of a list that ends before, and zeros
first_zeros : (q k : ℕ) (t : List Bool) → length t ≤ q → first_bits (q + k) t ≡ first_bits q t ++ replicate k false
first_zeros zero k [] short = let n : zero + k ≡ k = omega arith in rw n (first_bits-nil k)
first_zeros zero k (b ∷ t) short = absurd (omega arith)
first_zeros (suc q) k [] short = let n : suc q + k ≡ suc (q + k) = omega arith in rw n (ap (λ ds. false ∷ ds) (first_zeros q k [] (omega arith)))
first_zeros (suc q) k (b ∷ t) short = let n : suc q + k ≡ suc (q + k) = omega arith in rw n (ap (λ ds. b ∷ ds) (first_zeros q k t (omega arith)))

take-first_bits : (q n : ℕ) (t : List Bool) → q ≤ n → take q (first_bits n t) ≡ first_bits q t
take-first_bits zero n t within = refl
take-first_bits (suc q) zero t within = absurd (omega arith)
take-first_bits (suc q) (suc n) [] within = ap (λ ds. false ∷ ds) (take-first_bits q n [] (omega arith))
take-first_bits (suc q) (suc n) (b ∷ t) within = ap (λ ds. b ∷ ds) (take-first_bits q n t (omega arith))

first_bits-take : (q r : ℕ) (s : List Bool) → q ≤ r → q ≤ length s → first_bits q (take r s) ≡ take q s
first_bits-take zero r s low within = refl
first_bits-take (suc q) (suc r) (b ∷ s) low within = ap (λ ds. b ∷ ds) (first_bits-take q r s (omega arith) (omega arith))
first_bits-take q r s low within = absurd (omega arith)

-- as many of the first n bits as the budget has, and zeros
prefix_padded : (r n : ℕ) (s : List Bool) → first_bits n (take r s) ≡ first_bits (min n r) (take r s) ++ replicate (n - min n r) false
prefix_padded r n s = ⊎_elim
    (search (rules, append-nil))
    (λ (cut : r ≤ n).
    let q : min n r ≡ r = omega arith in
    let n' : n ≡ r + (n - r) = omega arith in
    rw q (ap (λ k. first_bits k (take r s)) n' ∙ first_zeros r (n - r) (take r s) (omega (arith, length-take r s))))
    (cases_lt n r)

-- where the bits are there
pub prefix_read : (r n : ℕ) (s : List Bool) → min n r ≤ length s → first_bits n (take r s) ≡ take (min n r) s ++ replicate (n - min n r) false
prefix_read r n s there = prefix_padded r n s ∙ ap (λ (ds : List Bool). ds ++ replicate (n - min n r) false) (first_bits-take (min n r) r s (omega arith) there)

-- ---- a plane

-- the bits behind the first digits, as far as the budget has them
behind : (r n : ℕ) (s : List Bool) → drop n (take r s) ≡ take (r - min n r) (drop (min n r) s)
behind r n s = ⊎_elim
    (search (rules, drop_all, length-take))
    (λ (low : n ≤ r).
    let q : min n r ≡ n = omega arith in
    let r' : r ≡ n + (r - n) = omega arith in
    rw q (ap (λ k. drop n (take k s)) r' ∙ drop-take n (r - n) s))
    (cases_lt r n)

-- the digits behind the first ones
tail_of_full : (r size n : ℕ) (s : List Bool) → drop n (plane_in size n (take r s)) ≡ tail_in (size - n) (take (r - min n r) (drop (min n r) s))
tail_of_full r size n s =
    drop_at (first_bits n (take r s)) (tail_in (size - n) (drop n (take r s))) n (length-first_bits n (take r s)) ∙ ap (tail_in (size - n)) (behind r n s)

pub plane_is : (r size n : ℕ) (s : List Bool) → n ≤ size → (plane_bits r size n s ≡ min n r + tail_bits (r - min n r) (size - n) (drop (min n r) s))
    × (plane_ahead r size n s ≡ first_bits n (take r s) ++ tail_ahead (r - min n r) (size - n) (drop (min n r) s))
unfolding plane_bits plane_ahead tail_bits tail_ahead
plane_is r size n s within =
    (search (rules, length-plane_code, length-plane_in, tail_of_full), search (rules, length-first_bits, length-drop, kept_as_cut, length-plane_in, prefix_padded, tail_of_full, take-append-le, take-first_bits))

-- ---- a plane whose code is there and in the budget is read whole

pub whole_plane : (left n len : ℕ) (ds s : List Bool) → n ≤ length ds → plane_code n ds ≡ take len s → len ≤ length s → len ≤ left → (plane_bits left (length ds) n s ≡ len) × (plane_ahead left (length ds) n s ≡ ds)
unfolding plane_bits plane_ahead
whole_plane left n len ds s within code there fits =
    let prefix = take left s in
    let split : plane_code n ds ++ drop len prefix ≡ prefix =
    ap (λ (bs : List Bool). bs ++ drop len prefix) (code ∙ sym (take-take len left s fits)) ∙ take-append-drop len prefix in search (rules, begins_itself, full_plane_only, length-take, kept_whole)
