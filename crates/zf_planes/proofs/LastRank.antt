-- Planes of four digits in which three ranks have had a one: each is its own code, as where all four have.
use Rattle.std.proofs.Common.{rules, ◌≡◌, ℕ, zero, suc, ◌+◌, ◌-◌, ◌*◌, ◌<◌, ◌≤◌, min, max, Bool, true, false, List, [], ◌∷◌, ◌++◌, length, take, drop, refl, inr, sym, ap, ◌∙◌, ⊎_elim, arith}
use Rattle.std.{proofs.lemmas.Bool.{cases_lt}, proofs.lemmas.List.{length-append}}
use Rattle.std.proofs.lemmas.List.Elements.{All-head, All-tail}
use Rattle.zf_spec.{specs.Planes.{plane_code, code_from, reach, AreOfSize}, proofs.Full.{length-plane_in}}
use Rattle.zf_spec.{specs.Kept.{kept_plane}, specs.ReadPlanes.{first_bits, plane_in, planes_in_from}}
use Rattle.zf_spec.{proofs.KeptSame.{kept_whole}, proofs.Reach.{reach-le, reach_within}}
use Rattle.zf_planes.{proofs.PlaneAhead.{plane_is}, proofs.Steps.{tail_over}, proofs.PlanesAhead.{next_plane, planes_none}}
use Rattle.zf_spec.proofs.Beginnings.{length-first_bits}
use Rattle.zf_bits.specs.Reader.{Reader, rest}
use Rattle.zf_planes.{specs.Decoding.{plane_ahead, plane_bits, planes_ahead, planes_bits, tail_ahead}, specs.States.{State, Comes}}

-- ---- one plane

-- its code
pub plane_of_three : (n : ℕ) (ds : List Bool) → 3 ≤ n → n ≤ 4 → length ds ≡ 4 → plane_code n ds ≡ ds
plane_of_three (suc (suc (suc zero))) (a ∷ b ∷ c ∷ true ∷ []) low high long = refl
plane_of_three (suc (suc (suc zero))) (a ∷ b ∷ c ∷ false ∷ []) low high long = refl
plane_of_three (suc (suc (suc (suc zero)))) (a ∷ b ∷ c ∷ d ∷ []) low high long = refl
plane_of_three n ds low high long = absurd (omega (arith, long))

-- what a budget keeps of it
kept_short : (r : ℕ) (ds : List Bool) → r < 4 → length ds ≡ 4 → kept_plane r 3 ds ≡ kept_plane r 4 ds
kept_short zero (a ∷ b ∷ c ∷ true ∷ []) few long = refl
kept_short (suc zero) (a ∷ b ∷ c ∷ true ∷ []) few long = refl
kept_short (suc (suc zero)) (a ∷ b ∷ c ∷ true ∷ []) few long = refl
kept_short (suc (suc (suc zero))) (a ∷ b ∷ c ∷ true ∷ []) few long = refl
kept_short (suc (suc (suc (suc r)))) ds few long = absurd (omega arith)
kept_short r (a ∷ b ∷ c ∷ false ∷ []) few long = refl
kept_short r ds few long = absurd (omega (arith, long))

kept_of_three : (n r : ℕ) (ds : List Bool) → 3 ≤ n → n ≤ 4 → length ds ≡ 4 → kept_plane r n ds ≡ kept_plane r 4 ds
kept_of_three n r ds low high long = ⊎_elim
    (λ (few : r < 4). ⊎_elim
    (λ (three : n < 4). let is : n ≡ 3 = omega arith in rw is (kept_short r ds few long))
    (λ (all : 4 ≤ n). let is : n ≡ 4 = omega arith in rw is refl)
    (cases_lt n 4))
    (search (rules, kept_whole, plane_of_three))
    (cases_lt r 4)

-- what bits make of it
read_of_three : (n : ℕ) (s : List Bool) → 3 ≤ n → n ≤ 4 → plane_in 4 n s ≡ plane_in 4 4 s
read_of_three (suc (suc (suc zero))) (a ∷ b ∷ c ∷ true ∷ true ∷ s) low high = refl
read_of_three (suc (suc (suc zero))) (a ∷ b ∷ c ∷ false ∷ true ∷ s) low high = refl
read_of_three (suc (suc (suc zero))) s low high = refl
read_of_three (suc (suc (suc (suc zero)))) s low high = refl
read_of_three n s low high = absurd (omega arith)

-- ---- planes

-- their code
pub code_of_three : (n m : ℕ) (planes : List (List Bool)) → 3 ≤ n → n ≤ 4 → 3 ≤ m → m ≤ 4 → AreOfSize 4 planes → code_from n planes ≡ code_from m planes
code_of_three n m [] low high low' high' sizes = refl
code_of_three n m (ds ∷ planes) low high low' high' sizes =
    let long : length ds ≡ 4 = All-head (λ es. length es ≡ 4) ds planes sizes in
    let below = All-tail (λ es. length es ≡ 4) ds planes sizes in
    let rest = code_of_three (max n (reach ds)) (max m (reach ds)) planes (omega arith) (reach_within 4 n ds high long) (omega arith) (reach_within 4 m ds high' long) below in
    cc (plane_of_three n ds low high long, plane_of_three m ds low' high' long)

-- one plane
one_of_three : (left n : ℕ) (s : List Bool) → 3 ≤ n → n ≤ 4 → (plane_bits left 4 n s ≡ plane_bits left 4 4 s) × (plane_ahead left 4 n s ≡ plane_ahead left 4 4 s)
unfolding plane_bits plane_ahead
one_of_three left n s low high = search (rules, plane_of_three, read_of_three, kept_of_three)

-- it has four digits
four_ahead : (left : ℕ) (s : List Bool) → length (plane_ahead left 4 4 s) ≡ 4
four_ahead left s =
    let none : 4 - 4 ≡ 0 = omega arith in
    let over = tail_over (left - min 4 left) 0 (drop (min 4 left) s) (inr refl) in
    omega (arith, ap length (rw none at (plane_is left 4 4 s (omega arith))).1, length-append (first_bits 4 (take left s)) (tail_ahead (left - min 4 left) 0 (drop (min 4 left) s)), length-first_bits 4 (take left s), ap length over.1)

-- so three ranks are as good as four
pub ahead_of_three : (left p n : ℕ) (s : List Bool) → 3 ≤ n → n ≤ 4 → (planes_bits left p 4 n s ≡ planes_bits left p 4 4 s) × (planes_ahead left p 4 n s ≡ planes_ahead left p 4 4 s)
ahead_of_three left zero n s low high = let a = planes_none left 4 n s in let b = planes_none left 4 4 s in (cc, cc)
ahead_of_three left (suc p) n s low high =
    let one = one_of_three left n s low high in
    let ds = plane_ahead left 4 4 s in
    let long = four_ahead left s in
    let here = rw (one.0, one.1) at (next_plane left p 4 n s (omega arith) high (ap length one.1 ∙ long)) in
    let there = next_plane left p 4 4 s (omega arith) (omega arith) long in
    let k = plane_bits left 4 4 s in
    let all : max 4 (reach ds) ≡ 4 = omega (arith, reach-le ds) in
    let below = ahead_of_three (left - k) p (max n (reach ds)) (drop k s) (omega arith) (omega (arith, reach-le ds)) in
    (here.bits ∙ ap (λ m. k + m) below.0 ∙ sym (rw all at there.bits), here.digits ∙ ap (λ (ps : List (List Bool)). ds ∷ ps) below.1 ∙ sym (rw all at there.digits))

-- ---- bits that are needed

own_length : (p : ℕ) (s : List Bool) → length (code_from 4 (planes_in_from p 4 4 s)) ≡ 4 * p
own_length zero s = refl
own_length (suc p) s =
    let ds = plane_in 4 4 s in
    let long : length ds ≡ 4 = length-plane_in 4 4 s (omega arith) in
    let whole = plane_of_three 4 ds (omega arith) (omega arith) long in
    let reached : max 4 (reach ds) ≡ 4 = omega (arith, reach_within 4 4 ds (omega arith) long) in
    let t = drop (length (plane_code 4 ds)) s in
    length-append (plane_code 4 ds) (code_from (max 4 (reach ds)) (planes_in_from p 4 (max 4 (reach ds)) t))
    ∙ ap (λ m. length (plane_code 4 ds) + length (code_from m (planes_in_from p 4 m t))) reached
    ∙ omega (arith, ap length whole, long, own_length p t)

pub own_bits : (left p : ℕ) (s : List Bool) → planes_bits left p 4 4 s ≡ min left (4 * p)
unfolding planes_bits
own_bits left p s = ap (min left) (own_length p (take left s))

-- planes that come behind four ranks are those behind three
pub three_for_four : {c n left : ℕ} {now : Reader} {t : State} {planes : List (List Bool)} → 3 ≤ n → n ≤ 4 → Comes 4 c (record { left = left; above = 4; reader = now }) [] t planes → Comes 4 c (record { left = left; above = n; reader = now }) [] t planes
three_for_four {c} {n} {left} {now} {t} {planes} low high come = record {
  planes = λ p q e. (ahead_of_three left p n (rest now) low high).1 ∙ come.planes p q e;
  bits = λ p q e. (ahead_of_three left p n (rest now) low high).0 ∙ come.bits p q e;
  passed = come.passed;
  risen = omega (arith, come.risen);
  ranks = λ within. come.ranks (omega arith);
}

-- and so are those that follow
pub three_through : {c n left after : ℕ} {now new : Reader} {planes : List (List Bool)} → 3 ≤ n → n ≤ 4 → Comes 4 c (record { left = left; above = 4; reader = now }) [] (record { left = after; above = 4; reader = new }) planes
    → Comes 4 c (record { left = left; above = n; reader = now }) [] (record { left = after; above = n; reader = new }) planes
three_through {c} {n} {left} {after} {now} {new} {planes} low high come =
    let here = three_for_four low high come in
    record {
      planes = λ p q e. here.planes p q e ∙ ap (λ (ps : List (List Bool)). planes ++ ps) (sym (ahead_of_three after q n (rest new) low high).1);
      bits = λ p q e. omega (arith, here.bits p q e, (ahead_of_three after q n (rest new) low high).0);
      passed = come.passed;
      risen = omega arith;
      ranks = λ within. high;
    }
