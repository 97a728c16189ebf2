-- Planes whose codes are passed one behind another.
use Rattle.std.proofs.Common.{◌≡◌, ℕ, zero, suc, ◌+◌, ◌-◌, ◌*◌, ◌<◌, ◌≤◌, max, Bool, false, List, [], ◌∷◌, ◌++◌, length, take, drop, replicate, refl, ap, ◌∙◌, arith, take_all, drop_at}
use Rattle.std.proofs.lemmas.List.{length-append, length-drop}
use Rattle.zf_spec.specs.Planes.{reach, tail, plane_code, code_from, code}
use Rattle.zf_spec.specs.ReadPlanes.{first_bits, tail_in, plane_in, planes_in_from, planes_in}
use Rattle.zf_spec.{proofs.Beginnings.{length-first_bits}, proofs.PlaneCode.{length-code_from-le}}
use Rattle.zf_spec.proofs.Full.{length-plane_in, length-planes_in_from, planes_in_from-length}
use Rattle.zf_planes.proofs.Lengths.{length-plane_code, reach-drop}
use Rattle.zf_block.specs.Passing.{tail_len, tail_reach, AlongPlanes}
use Rattle.zf_block.proofs.PartsPassed.{tail_zero}

-- ---- a plane

-- its digits behind rank n
tail_behind : (size n : ℕ) (s : List Bool) → drop n (plane_in size n s) ≡ tail_in (size - n) (drop n s)
tail_behind size n s = drop_at (first_bits n s) (tail_in (size - n) (drop n s)) n (length-first_bits n s)

pub plane_len : (size n : ℕ) (s : List Bool) → n ≤ size → length (plane_code n (plane_in size n s)) ≡ n + tail_len (size - n) (drop n s)
unfolding tail_len
plane_len size n s within =
    omega (arith, length-plane_code n (plane_in size n s) (omega (arith, length-plane_in size n s within)), ap (λ ds. length (tail ds)) (tail_behind size n s))

pub plane_reach : (size n : ℕ) (s : List Bool) → max n (reach (plane_in size n s)) ≡ n + tail_reach (size - n) (drop n s)
unfolding tail_reach
plane_reach size n s = omega (arith, reach-drop n (plane_in size n s), ap reach (tail_behind size n s))

-- ---- planes

pub planes_start : (p size : ℕ) (s : List Bool) → AlongPlanes p size 0 0 s s
planes_start p size s =
    record { spent = omega arith; ahead = λ k. let i : 0 + k ≡ k = omega arith in let all : p - 0 ≡ p = omega arith in rw (i, all) (omega arith) }

-- with one plane more
pub planes_more : {p size i n : ℕ} {old now : List Bool} → AlongPlanes p size i n old now → i < p → length (plane_code n (plane_in size n now)) ≤ length now
    → AlongPlanes p size (i + 1) (max n (reach (plane_in size n now))) old (drop (length (plane_code n (plane_in size n now))) now)
planes_more {p} {size} {i} {n} {old} {now} along below fits =
    let len = length (plane_code n ds) in
    let one = step 0 in
    let none : i + suc 0 ≡ i + 1 = omega arith in
    record {
      spent = omega (arith, along.spent, rw none at one, length-drop len now, fits);
      ahead = λ k. let more : i + suc k ≡ i + 1 + k = omega arith in omega (arith, rw more at (step k), rw none at one);
    }
  where
    ds : List Bool
    ds = plane_in size n now

    step : (k : ℕ) → length (code (take (i + suc k) (planes_in p size old)))
        ≡ length (code (take i (planes_in p size old))) + (length (plane_code n (plane_in size n now))
        + length (code_from (max n (reach (plane_in size n now))) (take k (planes_in_from (p - (i + 1)) size (max n (reach (plane_in size n now))) (drop (length (plane_code n (plane_in size n now))) now)))))
    step k =
        let next : p - i ≡ suc (p - (i + 1)) = omega (arith, below) in
        let ahead = rw next at (along.ahead (suc k)) in
        omega (arith, ahead, length-append (plane_code n (plane_in size n now)) (code_from (max n (reach (plane_in size n now))) (take k (planes_in_from (p - (i + 1)) size (max n (reach (plane_in size n now))) (drop (length (plane_code n (plane_in size n now))) now)))))

-- the code of the next one is not there
pub planes_short : {p size i n : ℕ} {old now : List Bool} → AlongPlanes p size i n old now → i < p → length now < length (plane_code n (plane_in size n now)) → length old < length (code (take (i + 1) (planes_in p size old)))
planes_short {p} {size} {i} {n} {old} {now} along below short =
    let next : p - i ≡ suc (p - (i + 1)) = omega (arith, below) in
    let one = rw next at (along.ahead 1) in
    omega (arith, along.spent, one, short, length-append (plane_code n (plane_in size n now)) [])

-- a zero is a plane of zeros, where no rank has had a one above
zero_plane : (size : ℕ) (t : List Bool) → 0 < size → (length (plane_code 0 (plane_in size 0 (false ∷ t))) ≡ 1) × (max 0 (reach (plane_in size 0 (false ∷ t))) ≡ 0)
zero_plane size t some =
    let all : size - 0 ≡ size = omega arith in
    let end = tail_zero size t some in
    let len : 0 + tail_len (size - 0) (false ∷ t) ≡ 1 = rw all (omega (arith, end.0)) in
    let reached : 0 + tail_reach (size - 0) (false ∷ t) ≡ 0 = rw all (omega (arith, end.1)) in
    (plane_len size 0 (false ∷ t) (omega arith) ∙ len, plane_reach size 0 (false ∷ t) ∙ reached)

pub zero_planes : (z : ℕ) {p size i : ℕ} {old : List Bool} (t : List Bool) → 0 < size → i + z ≤ p → AlongPlanes p size i 0 old (replicate z false ++ t) → AlongPlanes p size (i + z) 0 old t
zero_planes zero {p} {size} {i} t some within along = let none : i + 0 ≡ i = omega arith in rw none along
zero_planes (suc z) {p} {size} {i} {old} t some within along =
    let zero = zero_plane size (replicate z false ++ t) some in
    let one = planes_more along (omega (arith, within)) (omega (arith, zero.0)) in
    let next : AlongPlanes p size (i + 1) 0 old (replicate z false ++ t) = rw (zero.0, zero.1) at one in
    let count : i + suc z ≡ i + 1 + z = omega arith in
    rw count (zero_planes z t some (omega (arith, within)) next)

-- so many bits are enough for all that are left
pub planes_enough : {p size i n : ℕ} {old now : List Bool} → AlongPlanes p size i n old now → i ≤ p → n ≤ size → size * (p - i) + size ≤ length now + n → length (code (take p (planes_in p size old))) ≤ length old
planes_enough {p} {size} {i} {n} {old} {now} along within in_plane enough =
    let ps = planes_in_from (p - i) size n now in
    let long : length ps ≡ p - i = length-planes_in_from (p - i) size n now in
    let all : take (p - i) ps ≡ ps = take_all (p - i) ps (omega (arith, long)) in
    let most = length-code_from-le size n ps in_plane (planes_in_from-length (p - i) size n now in_plane) in
    let count : i + (p - i) ≡ p = omega (arith, within) in
    let ahead = rw (count, all) at (along.ahead (p - i)) in
    omega (arith, ahead, along.spent, rw long at most, enough)

-- ---- the top ones alone

pub take-planes_in_from : (m p q size n : ℕ) (s : List Bool) → m ≤ p → m ≤ q → take m (planes_in_from p size n s) ≡ take m (planes_in_from q size n s)
take-planes_in_from zero p q size n s low low' = refl
take-planes_in_from (suc m) (suc p) (suc q) size n s low low' =
    let ds = plane_in size n s in ap (λ (ps : List (List Bool)). ds ∷ ps) (take-planes_in_from m p q size (max n (reach ds)) (drop (length (plane_code n ds)) s) (omega arith) (omega arith))
take-planes_in_from (suc m) p q size n s low low' = absurd (omega arith)
