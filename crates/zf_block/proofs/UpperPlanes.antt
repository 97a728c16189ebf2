-- Planes of which the upper ones alone are reached.
use Rattle.std.proofs.Common.{rules, ◌≡◌, refl, sym, ap, ◌∙◌, ℕ, zero, suc, ◌+◌, ◌-◌, ◌*◌, ◌/◌, ◌%◌, ◌^◌, ◌<◌, ◌≤◌, max, Bool, true, false, eqb, List, [], ◌∷◌, ◌++◌, map, length, take, drop, replicate, min, pow_pos, get_or, get_or-take, get_or-drop, take-append-drop, ext_get_or, arith, pow-suc}
use Rattle.std.{proofs.lemmas.Bool.{cases_lt}, proofs.lemmas.List.Elements.{All-head, All-tail, All-take}}
use Rattle.std.proofs.lemmas.List.{length-append, length-map, length-take, length-take-le, length-drop, length-replicate, get_or-map, take_all, take-take, drop-take, take-replicate, drop-replicate}
use Rattle.std.{proofs.lemmas.Nat.{leading_top, shr-shr, div-add-mod'}, proofs.lemmas.Nat.Bits.{bit_at_cat_low, bit_at_cat_high}}
use Rattle.std.{specs.Int.{leading_zeros, bit_at, w64}, proofs.Math.Nat.{mod-lt, mul-add, mul-le-mul_right}}
use lib.Count.{leading_of_zero}
use Rattle.zf_spec.specs.Grid.{IsBlockSize}
use Rattle.zf_spec.{specs.Numbers.{field, is_odd}, specs.ReadPlanes.{first_bits}}
use Rattle.zf_spec.specs.Planes.{plane, planes_of, reach, reach_of_all, tail, plane_code, code_from, code, AreOfSize}
use Rattle.zf_spec.{proofs.Beginnings.{first_bits-append}, proofs.Fields.{get_or-field}}
use Rattle.zf_spec.proofs.PlaneDigits.{length-planes_of, get_or-planes_of, get_or-plane, planes_of-length}
use Rattle.zf_spec.{proofs.Reach.{reach_within, none_past_reach}, proofs.PlaneCode.{length-code-le}}
use Rattle.zf_planes.{proofs.Strings.{code_from-append}, proofs.Zeros.{zero_code, take_zeros}, proofs.Budgets.{take_append}}
use Rattle.zf_coef.specs.HeldDigits.{digits_in}
use Rattle.zf_block.specs.Held.{top_code}

-- ---- how long codes are at least

-- each plane has a bit for each rank that had a one above
code_from-ge : (k n size : ℕ) (ps : List (List Bool)) → k ≤ n → n ≤ size → AreOfSize size ps → k * length ps ≤ length (code_from n ps)
code_from-ge k n size [] few within all = omega arith
code_from-ge k n size (ds ∷ ps) few within all =
    let l = All-head (λ ds. length ds ≡ size) ds ps all in
    let next = max n (reach ds) in
    let rest = code_from-ge k next size ps (omega arith) (reach_within size n ds within l) (All-tail (λ ds. length ds ≡ size) ds ps all) in
    omega (arith, rest, l, length-append (plane_code n ds) (code_from next ps), length-append (take n ds) (tail (drop n ds)), length-take n ds)

-- a plane whose last rank has a one reaches as far as it is long
reach_whole : (size : ℕ) (ds : List Bool) → 0 < size → get_or ds (size - 1) false ≡ true → size ≤ reach ds
reach_whole size ds some one = search (rules, none_past_reach, cases_lt)

-- below such a plane, each plane has a bit for each rank
below_whole : (size p n : ℕ) (ps : List (List Bool)) → 0 < size → p < length ps → n ≤ size → AreOfSize size ps → get_or (get_or ps p []) (size - 1) false ≡ true
    → size * (length ps - suc p) ≤ length (code_from n ps)
below_whole size p n [] some here within all one = absurd (omega arith)
below_whole size zero n (ds ∷ ps) some here within all one =
    let l : length ds ≡ size = All-head (λ ds. length ds ≡ size) ds ps all in
    let next = max n (reach ds) in
    let whole : size ≤ next = omega (arith, reach_whole size ds some one) in
    let rest = code_from-ge size next size ps whole (reach_within size n ds within l) (All-tail (λ ds. length ds ≡ size) ds ps all) in
    let count : length (ds ∷ ps) - suc zero ≡ length ps = omega arith in
    rw count (omega (arith, rest, length-append (plane_code n ds) (code_from next ps)))
below_whole size (suc p) n (ds ∷ ps) some here within all one =
    let l : length ds ≡ size = All-head (λ ds. length ds ≡ size) ds ps all in
    let next = max n (reach ds) in
    let rest = below_whole size p next ps some (omega arith) (reach_within size n ds within l) (All-tail (λ ds. length ds ≡ size) ds ps all) one in
    let count : length (ds ∷ ps) - suc (suc p) ≡ length ps - suc p = omega arith in
    rw count (omega (arith, rest, length-append (plane_code n ds) (code_from next ps)))

-- ---- the last digits

-- the highest digit of a word
highest : (v j : ℕ) → 2 ^ j ≤ v → v < 2 ^ suc j → is_odd (v / 2 ^ j) ≡ true
highest v j low high = search (rules, bit_at_cat_high, pow-suc)

-- a word with fewer leading zeros than digits is not zero
some_digit : (v p : ℕ) → leading_zeros w64 v ≡ p → p < 64 → 0 < v
some_digit v p is less = grind (arith, leading_of_zero 64)

-- a word that is shifted up has its digits as many places further up
shifted_up : (v s i : ℕ) → i + s < 64 → is_odd (v * 2 ^ s % 2 ^ 64 / 2 ^ (i + s)) ≡ is_odd (v / 2 ^ i)
shifted_up v s i within =
    let n = v * 2 ^ s in
    let whole : n ≡ n + 0 = omega arith in
    let place : i + s - s ≡ i = omega arith in
    let same : bit_at (n % 2 ^ 64) (i + s) ≡ bit_at v i = cc (bit_at_cat_low (n / 2 ^ 64) 64 (n % 2 ^ 64) (i + s) within, div-add-mod' n (2 ^ 64), bit_at_cat_high v s 0 (i + s) (pow_pos s) (omega arith)) in
    ap (λ b. eqb b 1) same

-- the last rank has a one in the plane behind the leading zeros of its digits
last_one : (us : List ℕ) (w r v p : ℕ) → w ≤ 64 → r < length us → get_or us r 0 ≡ v → leading_zeros w64 (v * 2 ^ (64 - w) % 2 ^ 64) ≡ p → p < w
    → get_or (get_or (planes_of w (digits_in w us)) p []) r false ≡ true
last_one us w r v p width within is zeros here =
    let cs = digits_in w us in
    let word = v * 2 ^ (64 - w) % 2 ^ 64 in
    let top = leading_top 64 word (some_digit word p zeros (omega arith)) (mod-lt (v * 2 ^ (64 - w)) (pow_pos 64)) in
    let place : w - 1 - p + (64 - w) ≡ top.0 = omega (arith, top.1, zeros) in
    let odd : is_odd (word / 2 ^ top.0) ≡ true = search (rules, highest) in
    let one : is_odd (v / 2 ^ (w - 1 - p)) ≡ true = sym (shifted_up v (64 - w) (w - 1 - p) (omega arith)) ∙ ap (λ j. is_odd (word / 2 ^ j)) place ∙ odd in
    search (rules, get_or-planes_of, get_or-plane, get_or-map, get_or-field)

-- so many bits stand in the code of the top planes
pub top_has : (bits k w size v p : ℕ) (us : List ℕ) → w ≤ 64 → k ≤ w → size ≡ length us → 0 < size → get_or us (size - 1) 0 ≡ v → leading_zeros w64 (v * 2 ^ (64 - w) % 2 ^ 64) ≡ p → p < k
    → bits ≤ size * (k - 1 - p) → bits ≤ length (top_code k w us)
unfolding top_code
top_has bits k w size v p us width top long some is zeros here enough =
    let cs = digits_in w us in
    let ps = planes_of w cs in
    let count : length (take k ps) ≡ k = length-take-le k ps (omega (arith, length-planes_of w cs)) in
    let all : AreOfSize size ps = λ i e h. planes_of-length w cs i e h ∙ length-map us (field w) ∙ sym long in
    let one : get_or (get_or (take k ps) p []) (size - 1) false ≡ true =
    ap (λ ds. get_or ds (size - 1) false) (get_or-take k ps p [] here) ∙ last_one us w (size - 1) v p width (omega arith) is zeros (omega arith) in
    let left : length (take k ps) - suc p ≡ k - 1 - p = omega (arith, count) in
    let least = below_whole size p 0 (take k ps) some (omega (arith, count)) (omega arith) (All-take (λ ds. length ds ≡ size) k ps all) one in
    omega (arith, enough, ap (λ n. size * n) left, least)

-- and then the first of them are those of the whole code
first_of_top : (bits k : ℕ) (ps : List (List Bool)) → bits ≤ length (code (take k ps)) → take bits (code (take k ps)) ≡ first_bits bits (code ps)
first_of_top bits k ps enough =
    let rest = code_from (max 0 (reach_of_all (take k ps))) (drop k ps) in
    let split = code_from-append 0 (take k ps) (drop k ps) in
    cc (split, take-append-drop k ps, first_bits-append (code (take k ps)) rest bits enough)

-- the code of all planes, where that of the top ones has so many bits
pub all_first : (bits k w : ℕ) (us : List ℕ) → bits ≤ length (top_code k w us) → take bits (top_code k w us) ≡ first_bits bits (code (planes_of w (digits_in w us)))
unfolding top_code
all_first bits k w us enough = first_of_top bits k (planes_of w (digits_in w us)) enough

-- ---- planes of words without their lowest digits

abbrev pub above : ℕ → List ℕ → List ℕ
above k us = map (λ u. u / 2 ^ k) us

plane-above : (m k w j : ℕ) (us : List ℕ) → m + k ≤ w → j < m → plane j (digits_in m (above k us)) ≡ plane (j + k) (digits_in w us)
plane-above m k w j [] width here = refl
plane-above m k w j (u ∷ us) width here =
    let place : k + j ≡ j + k = omega arith in
    let low = get_or-field m (u / 2 ^ k) j false here in
    cc (low, shr-shr u k j, get_or-field w u (j + k) false (omega arith), plane-above m k w j us width here)

planes_of-above : (t m k w : ℕ) (us : List ℕ) → w ≡ t + (m + k) → planes_of m (digits_in m (above k us)) ≡ take m (drop t (planes_of w (digits_in w us)))
planes_of-above t m k w us width =
    let low = planes_of m (digits_in m (above k us)) in
    let all = planes_of w (digits_in w us) in
    let long : length low ≡ m = length-planes_of m (digits_in m (above k us)) in
    let long' : length (take m (drop t all)) ≡ m = length-take-le m (drop t all) (omega (arith, length-drop t all, length-planes_of w (digits_in w us))) in
    ext_get_or [] low (take m (drop t all)) (long ∙ sym long')
    (λ i below.
    let here : i < m = omega (arith, below, long) in
    let place : m - 1 - i + k ≡ w - 1 - (t + i) = omega arith in
    let plane_of = get_or-planes_of m (digits_in m (above k us)) i here in
    let plane_of' = get_or-planes_of w (digits_in w us) (t + i) (omega arith) in
    cc (plane-above m k w (m - 1 - i) us (omega arith) (omega arith), get_or-take m (drop t all) i [] here, get_or-drop t all i []))

-- words that are these without their lowest digits: m planes of them are those behind the top t
pub planes_of-shifted : (t m k w : ℕ) (us vs : List ℕ) → w ≡ t + (m + k) → length vs ≡ length us → ((r : ℕ) → r < length vs → get_or vs r 0 ≡ get_or us r 0 / 2 ^ k)
    → planes_of m (digits_in m vs) ≡ take m (drop t (planes_of w (digits_in w us)))
planes_of-shifted t m k w us vs width long each =
    let size = length-map us (λ u. u / 2 ^ k) in
    let same : vs ≡ above k us = ext_get_or 0 vs (above k us) (omega (arith, size)) (search (rules, get_or-map)) in
    rw same (planes_of-above t m k w us width)

-- ---- planes of which the top ones have no one

-- behind t of z planes of zeros the others of them come
pub zeros-shifted : (t z m : ℕ) (ps : List (List Bool)) (blank : List Bool) → take z ps ≡ replicate z blank → t ≤ z → z ≤ t + m → take (z - t) (take m (drop t ps)) ≡ replicate (z - t) blank
zeros-shifted t z m ps blank none within few =
    let sum : t + (z - t) ≡ z = omega arith in
    take-take (z - t) m (drop t ps) (omega arith) ∙ sym (drop-take t (z - t) ps) ∙ ap (λ n. drop t (take n ps)) sum ∙ ap (drop t) none ∙ drop-replicate t z blank

-- a bit for each of these, and the code of the others
code_behind : (t z k size : ℕ) (ps : List (List Bool)) → take z ps ≡ replicate z (replicate size false) → 0 < size → t ≤ z → z ≤ k
    → code (take k ps) ≡ replicate t false ++ code (take (k - t) (drop t ps))
code_behind t z k size ps none some within more =
    let blank = replicate size false in
    let sum : t + (k - t) ≡ k = omega arith in
    let top : take t (take k ps) ≡ replicate t blank =
    take-take t k ps (omega arith) ∙ sym (take-take t z ps within) ∙ ap (take t) none ∙ take-replicate t z blank within in
    let behind : drop t (take k ps) ≡ take (k - t) (drop t ps) = ap (λ n. drop t (take n ps)) (sym sum) ∙ drop-take t (k - t) ps in
    ap code (sym (take-append-drop t (take k ps)) ∙ ap (λ qs. qs ++ drop t (take k ps)) top ∙ ap (λ qs. replicate t blank ++ qs) behind)
    ∙ zero_code t size (take (k - t) (drop t ps)) some

-- room for a budget, or for all planes, is room for those behind the top t when a bit for each of these is written
pub fits_behind : (budget size p t room : ℕ) → 0 < size → t ≤ p → min budget (size * p + size) ≤ room → min (budget - min budget t) (size * (p - t) + size) + min budget t ≤ room
fits_behind budget size p t room some within fits =
    let sum : p - t + t ≡ p = omega arith in
    let parts : size * p ≡ size * (p - t) + size * t = sym (ap (λ n. size * n) sum) ∙ mul-add size (p - t) t in
    let least : t ≤ size * t = omega (arith, mul-le-mul_right t some) in
    omega (arith, fits, parts, least)

-- what is written of few planes is what is written of the top ones
pub writes_top : (budget t z m k w p size : ℕ) (us vs : List ℕ) → w ≡ t + (m + k) → length vs ≡ length us → ((r : ℕ) → r < length vs → get_or vs r 0 ≡ get_or us r 0 / 2 ^ k)
    → take z (planes_of w (digits_in w us)) ≡ replicate z (replicate size false) → 0 < size → t ≤ z → z ≤ p → p ≤ t + m
    → replicate (min budget t) false ++ take (budget - min budget t) (code (take (p - t) (planes_of m (digits_in m vs)))) ≡ take budget (top_code p w us)
unfolding top_code
writes_top budget t z m k w p size us vs width long each none some within more few =
    let all = planes_of w (digits_in w us) in
    let ds = code (take (p - t) (drop t all)) in
    let left : budget - min budget t ≡ budget - length (replicate t false) = omega (arith, length-replicate t false) in
    let turned : take (p - t) (planes_of m (digits_in m vs)) ≡ take (p - t) (drop t all) =
    ap (take (p - t)) (planes_of-shifted t m k w us vs width long each) ∙ take-take (p - t) m (drop t all) (omega arith) in
    sym (ap (take budget) (code_behind t z p size all none some within more) ∙ take_append budget (replicate t false) ds
    ∙ ap (λ bs. bs ++ take (budget - length (replicate t false)) ds) (take_zeros budget t)
    ∙ ap (λ n. replicate (min budget t) false ++ take n ds) (sym left)
    ∙ ap (λ qs. replicate (min budget t) false ++ take (budget - min budget t) (code qs)) (sym turned))

pub few_values : (size n : ℕ) → IsBlockSize size → n ≡ size → n ≤ 256
few_values size n is long = omega (arith, is, long)

-- a code is far shorter than the greatest budget
pub all_kept : (k w : ℕ) (us : List ℕ) → k ≤ w → w ≤ 64 → length us ≤ 256 → take 18446744073709551615 (top_code k w us) ≡ code (take k (planes_of w (digits_in w us)))
unfolding top_code
all_kept k w us within width few =
    let size = length us in
    let ps = planes_of w (digits_in w us) in
    let count : length (take k ps) ≡ k = length-take-le k ps (omega (arith, length-planes_of w (digits_in w us))) in
    let all : AreOfSize size ps = λ i e h. planes_of-length w (digits_in w us) i e h ∙ length-map us (field w) in
    let most = length-code-le size (take k ps) (All-take (λ ds. length ds ≡ size) k ps all) in
    let digits : size * k ≤ 256 * k = mul-le-mul_right k few in
    take_all 18446744073709551615 (code (take k ps)) (omega (arith, most, ap (λ n. size * n) count, digits, within, width))
