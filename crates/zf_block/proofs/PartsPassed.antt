-- The parts of a code that bits begin with: how many bits they have, and how far the ones of their digits reach.
use Rattle.std.proofs.Common.{◌≡◌, ⊎_elim, ℕ, zero, suc, ◌+◌, ◌-◌, ◌/◌, ◌%◌, ◌^◌, ◌<◌, ◌≤◌, min, Bool, true, false, eqb, List, [], ◌∷◌, ◌++◌, length, take, drop, replicate, refl, sym, ap, ◌∙◌, arith}
use Rattle.std.{specs.Int.{w64, trailing_zeros}, proofs.lemmas.Bool.{cases_lt}, proofs.lemmas.Nat.{shr_le}}
use Rattle.std.proofs.lemmas.List.{length-drop, drop-drop, nil_from_length}
use Rattle.zf_spec.specs.Planes.{reach, tail}
use Rattle.zf_spec.specs.ReadPlanes.{run_in, tail_in}
use Rattle.zf_spec.specs.Numbers.{field}
use Rattle.zf_spec.{proofs.Reach.{reach_none, reach_some, has_one-zeros}, proofs.PlaneCode.{tail-zeros}}
use Rattle.zf_spec.proofs.Full.{code_from_run-true, code_from_run-false, tail-some, length-run_in, length-tail_in, full_run_begins}
use Rattle.zf_planes.proofs.Peeking.{zeros_ahead, one_ahead, first_bit, window_behind}
use Rattle.zf_block.specs.Passing.{HasNext, tail_len, tail_reach, run_len, run_reach, Along, Passes}

-- ---- the first of the next bits

pub zero_first : (s : List Bool) (v count : ℕ) → field count v ≡ take count s → 0 < count → v % 2 ≡ 0 → s ≡ false ∷ drop 1 s
zero_first s v count e some even = first_bit s v count false e some (ap (λ b. eqb b 1) even)

pub one_first : (s : List Bool) (v count : ℕ) → field count v ≡ take count s → 0 < count → v % 2 ≡ 1 → s ≡ true ∷ drop 1 s
one_first s v count e some odd = first_bit s v count true e some (ap (λ b. eqb b 1) odd)

-- ---- a run

run_zero : (m : ℕ) (t : List Bool) → (run_len (suc (suc m)) (false ∷ t) ≡ suc (run_len (suc m) t)) × (run_reach (suc (suc m)) (false ∷ t) ≡ suc (run_reach (suc m) t))
unfolding run_len run_reach
run_zero m t =
    let long : 1 ≤ length (run_in (suc m) t) = omega (arith, length-run_in (suc m) t) in
    (ap length (code_from_run-false (run_in (suc m) t) long), reach_some false (run_in (suc m) t) (full_run_begins m t).0)

-- k zeros of it
pub run_zeros : (k m : ℕ) (s t : List Bool) → k < m → s ≡ replicate k false ++ t → (run_len m s ≡ k + run_len (m - k) t) × (run_reach m s ≡ k + run_reach (m - k) t)
run_zeros zero m s t below e = let none : m - 0 ≡ m = omega arith in rw (e, none) (omega arith, omega arith)
run_zeros (suc k) (suc (suc m)) s t below e =
    let one = run_zero m (replicate k false ++ t) in
    let more = run_zeros k (suc m) (replicate k false ++ t) t (omega arith) refl in
    let fewer : suc (suc m) - suc k ≡ suc m - k = omega arith in
    rw (e, fewer) (omega (arith, one.0, more.0), omega (arith, one.1, more.1))
run_zeros (suc k) m s t below e = absurd (omega arith)

-- its one, behind which digits are left
pub run_one : (m : ℕ) (t : List Bool) → 1 < m → (run_len m (true ∷ t) ≡ 1 + tail_len (m - 1) t) × (run_reach m (true ∷ t) ≡ 1 + tail_reach (m - 1) t)
unfolding run_len run_reach tail_len tail_reach
run_one (suc (suc m)) t some =
    let long : 1 ≤ length (tail_in (suc m) t) = omega (arith, length-tail_in (suc m) t) in
    let fewer : suc (suc m) - 1 ≡ suc m = omega arith in
    rw fewer (omega (arith, ap length (code_from_run-true (tail_in (suc m) t) long)), omega arith)
run_one m t some = absurd (omega arith)

-- its last digit is a one with no bit
pub run_last : (s : List Bool) → (run_len 1 s ≡ 0) × (run_reach 1 s ≡ 1)
unfolding run_len run_reach
run_last s = (refl, refl)

-- where no bit is left it takes one for each digit but the last
pub run_none : (m : ℕ) → 0 < m → run_len m [] ≡ m - 1
unfolding run_len
run_none (suc zero) some = refl
run_none (suc (suc m)) some =
    let long : 1 ≤ length (run_in (suc m) []) = omega (arith, length-run_in (suc m) []) in
    omega (arith, ap length (code_from_run-false (run_in (suc m) []) long), run_none (suc m) (omega arith))
run_none zero some = absurd (omega arith)

-- ---- a tail

pub tail_done : (s : List Bool) → (tail_len 0 s ≡ 0) × (tail_reach 0 s ≡ 0)
unfolding tail_len tail_reach
tail_done s = let none = nil_from_length (tail_in 0 s) (length-tail_in 0 s) in rw none (refl, refl)

zeros_of : (m : ℕ) → 0 < m → (length (tail (replicate m false)) ≡ 1) × (reach (replicate m false) ≡ 0)
zeros_of (suc m) some = (ap length (tail-zeros m), reach_none (replicate (suc m) false) (has_one-zeros (suc m)))
zeros_of zero some = absurd (omega arith)

-- a group bit of zero, or none
pub tail_zero : (m : ℕ) (t : List Bool) → 0 < m → (tail_len m (false ∷ t) ≡ 1) × (tail_reach m (false ∷ t) ≡ 0)
unfolding tail_len tail_reach
tail_zero m t some = zeros_of m some

pub tail_none : (m : ℕ) → 0 < m → tail_len m [] ≡ 1
unfolding tail_len
tail_none m some = (zeros_of m some).0

-- a group bit of one
pub tail_one : (m : ℕ) (t : List Bool) → 0 < m → (tail_len m (true ∷ t) ≡ 1 + run_len m t) × (tail_reach m (true ∷ t) ≡ run_reach m t)
unfolding tail_len tail_reach run_len run_reach
tail_one (suc m) t some = (omega (arith, ap length (tail-some (run_in (suc m) t) (full_run_begins m t).0)), refl)
tail_one zero t some = absurd (omega arith)

-- ---- part of a code is passed

pub along_start : (len reached m : ℕ) (s : List Bool) → Along len reached m s len reached m s
along_start len reached m s =
    let none : length s - length s ≡ 0 = omega arith in
    record { fewer = omega arith; place = rw none refl; bits = omega arith; digits = omega arith; within = omega arith }

-- n bits more, which have k digits
pub along_more : {len reached m len' reached' m' : ℕ} {old now : List Bool} (n k len'' reached'' : ℕ) → Along len reached m old len' reached' m' now
    → n ≤ length now → k ≤ m' → len' ≡ n + len'' → reached' ≡ k + reached'' → Along len reached m old len'' reached'' (m' - k) (drop n now)
along_more {len} {reached} {m} {len'} {reached'} {m'} {old} {now} n k len'' reached'' along there within bits digits =
    let long = length-drop n now in
    let passed : length old - length (drop n now) ≡ length old - length now + n = omega (arith, along.fewer, long, there) in
    record {
      fewer = omega (arith, long, along.fewer);
      place = rw passed (ap (drop n) along.place ∙ drop-drop n (length old - length now) old);
      bits = omega (arith, along.bits, passed, bits);
      digits = omega (arith, along.digits, digits, within, along.within);
      within = omega (arith, along.within);
    }

-- and then what was passed behind them
pub along_both : {len reached m len' reached' m' len'' reached'' m'' : ℕ} {old now new : List Bool} → Along len reached m old len' reached' m' now → Along len' reached' m' now len'' reached'' m'' new
    → Along len reached m old len'' reached'' m'' new
along_both {len} {reached} {m} {len'} {reached'} {m'} {len''} {reached''} {m''} {old} {now} {new} first next =
    let passed : length old - length new ≡ length old - length now + (length now - length new) = omega (arith, first.fewer, next.fewer) in
    record {
      fewer = omega (arith, first.fewer, next.fewer);
      place = rw passed (next.place ∙ ap (drop (length now - length new)) first.place ∙ drop-drop (length now - length new) (length old - length now) old);
      bits = omega (arith, first.bits, next.bits, passed);
      digits = omega (arith, first.digits, next.digits);
      within = omega (arith, first.within, next.within);
    }

pub along_end : {len reached m m' : ℕ} {old now : List Bool} → Along len reached m old 0 0 m' now → Passes len reached m old now m'
along_end {len} {reached} {m} {m'} {old} {now} along =
    let all : len ≡ length old - length now = omega (arith, along.bits) in
    record { fits = omega (arith, all); passed = rw all along.place; digits = omega (arith, along.digits) }

pub along_short : {len reached m len' reached' m' : ℕ} {old now : List Bool} → Along len reached m old len' reached' m' now → length now < len' → length old < len
along_short along short = omega (arith, along.bits, along.fewer, short)

-- ---- what the next bits say

-- of a run they have the zeros and the one
pub zeros_and_one : (s : List Bool) (v count k m : ℕ) → field count v ≡ take count s → v < 2 ^ 64 → count ≤ 64 → k ≡ trailing_zeros w64 v → k < count → k + 1 < m
    → (run_len m s ≡ k + 1 + tail_len (m - (k + 1)) (drop (k + 1) s)) × (run_reach m s ≡ k + 1 + tail_reach (m - (k + 1)) (drop (k + 1) s))
zeros_and_one s v count k m window fits few is below in_run =
    let t = drop (k + 1) s in
    let split = one_ahead s v count k window fits is below few in
    let zeros = run_zeros k m s (true ∷ t) (omega (arith, in_run)) split in
    let one = run_one (m - k) t (omega (arith, in_run)) in
    let fewer : m - k - 1 ≡ m - (k + 1) = omega arith in
    let bits : run_len (m - k) (true ∷ t) ≡ 1 + tail_len (m - (k + 1)) t = rw (← fewer) one.0 in
    let digits : run_reach (m - k) (true ∷ t) ≡ 1 + tail_reach (m - (k + 1)) t = rw (← fewer) one.1 in
    (omega (arith, zeros.0, bits), omega (arith, zeros.1, digits))

-- or zeros alone
pub zeros_alone : (s : List Bool) (v count k m : ℕ) → field count v ≡ take count s → v < 2 ^ 64 → k ≤ trailing_zeros w64 v → k ≤ count → k < m
    → (run_len m s ≡ k + run_len (m - k) (drop k s)) × (run_reach m s ≡ k + run_reach (m - k) (drop k s))
zeros_alone s v count k m window fits low within below = run_zeros k m s (drop k s) below (zeros_ahead s v count k window fits low within)

-- up to the last digit, whose one has no bit
pub zeros_to_last : (s : List Bool) (v count k m : ℕ) → field count v ≡ take count s → v < 2 ^ 64 → k ≤ trailing_zeros w64 v → k ≤ count → k + 1 ≡ m → (run_len m s ≡ k) × (run_reach m s ≡ k + 1)
zeros_to_last s v count k m window fits low within last =
    let zeros = zeros_alone s v count k m window fits low within (omega (arith, last)) in
    let left : m - k ≡ 1 = omega (arith, last) in
    let end = run_last (drop k s) in
    let bits : run_len (m - k) (drop k s) ≡ 0 = rw left end.0 in
    let digits : run_reach (m - k) (drop k s) ≡ 1 = rw left end.1 in
    (omega (arith, zeros.0, bits), omega (arith, zeros.1, digits))

-- ---- a group bit of one and its run, which are among them: z zeros come before the one, and n bits are passed
pub group_there : (s : List Bool) (v count m z n : ℕ) → HasNext v s → v < 2 ^ 64 → v % 2 ≡ 1 → 0 < m → count ≤ 64 → count ≤ length s → z ≡ min (trailing_zeros w64 (v / 2)) (m - 1) → n ≡ min (z + 2) m → n ≤ count
    → Along (tail_len m s) (tail_reach m s) m s (tail_len (m - z - 1) (drop n s)) (tail_reach (m - z - 1) (drop n s)) (m - z - 1) (drop n s)
group_there s v count m z n next fits odd some few there zeros all within =
    let window = next count few there in
    let t = drop 1 s in
    let one = one_first s v count window (omega arith) odd in
    let group = tail_one m t some in
    let bits : tail_len m s ≡ 1 + run_len m t = ap (tail_len m) one ∙ group.0 in
    let digits : tail_reach m s ≡ run_reach m t = ap (tail_reach m) one ∙ group.1 in
    let behind : field (count - 1) (v / 2) ≡ take (count - 1) t = window_behind s v count 1 window (omega arith) in
    let small : v / 2 < 2 ^ 64 = omega (arith, shr_le v 1) in
    let start = along_start (tail_len m s) (tail_reach m s) m s in
    let fewer : m - z - 1 ≡ m - (z + 1) = omega arith in
    rw fewer (
    ⊎_elim
    (λ (early : z + 1 < m).
    let n' : n ≡ z + 1 + 1 = omega (arith, all, early) in
    let is : z ≡ trailing_zeros w64 (v / 2) = omega (arith, zeros, early) in
    let run = zeros_and_one t (v / 2) (count - 1) z m behind small (omega arith) is (omega (arith, within, n')) early in
    let n'' : n ≡ 1 + (z + 1) = omega (arith, n') in
    let place : drop n s ≡ drop (z + 1) t = ap (λ k. drop k s) n'' ∙ sym (drop-drop (z + 1) 1 s) in
    along_more n (z + 1) _ _ start (omega arith) (omega arith) (rw place (omega (arith, bits, run.0, n'))) (rw place (omega (arith, digits, run.1))))
    (λ (late : m ≤ z + 1).
    let n' : n ≡ z + 1 = omega (arith, all, late, zeros) in
    let run = zeros_to_last t (v / 2) (count - 1) z m behind small (omega (arith, zeros)) (omega (arith, within, n')) (omega (arith, zeros, late)) in
    let left : m - (z + 1) ≡ 0 = omega (arith, late) in
    let done = tail_done (drop n s) in
    let none : tail_len (m - (z + 1)) (drop n s) ≡ 0 = rw left done.0 in
    let none' : tail_reach (m - (z + 1)) (drop n s) ≡ 0 = rw left done.1 in
    along_more n (z + 1) _ _ start (omega arith) (omega arith) (omega (arith, bits, run.0, n', none)) (omega (arith, digits, run.1, none')))
    (cases_lt (z + 1) m))
