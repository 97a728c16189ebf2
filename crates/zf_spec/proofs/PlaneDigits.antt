-- Planes and the coefficients that they are the digits of.
use Rattle.std.proofs.Common.{rules, ◌≡◌, refl, sym, ap, ◌∙◌, ℕ, zero, suc, ◌-◌, ◌^◌, ◌<◌, ◌≤◌, max, Bool, false, ℤ, pos, FitsSigned, List, [], ◌∷◌, ◌++◌, map, reverse, length, get_or, take, replicate, All, ext_get_or, get_or-take, arith}
use Rattle.std.{proofs.lemmas.Bool.{cases_lt}, proofs.lemmas.Simd.{map-map}, specs.Int.{Width}}
use Rattle.std.proofs.lemmas.List.{length-map, get_or-map, get_or_past, length-reverse, get_or-reverse, length-append, length-replicate, get_or-replicate, get_or_append_left, get_or-append_right, length-take}
use Rattle.std.proofs.lemmas.List.Elements.{All-get_or, All-append, All-replicate}
use mir.Val.{bits}
use Rattle.zf_spec.{specs.Numbers.{digits, value_of}, specs.Grid.{upto}, specs.Ranks.{by_rank, by_place}}
use Rattle.zf_spec.specs.Planes.{plane, planes_of, digits_in_planes, needed_planes}
use Rattle.zf_spec.{specs.Codes.{planes, coefficients_of}, proofs.Reach.{none_at, none_past_used}}
use Rattle.zf_spec.proofs.Counting.{length-upto, get_or-upto, length-map-upto, get_or-map-upto, from_places, map-upto_same}
use Rattle.zf_spec.proofs.Negabinary.{length-digits, value_of-digits, digits-value_of}
use Rattle.zf_spec.proofs.Ranking.{order_below, length-by_rank, length-by_place, get_or-by_rank, by_place-by_rank, by_rank-by_place}

-- ---- the numbers below n, the greatest first

length-reverse-upto : (n : ℕ) → length (reverse (upto n)) ≡ n
length-reverse-upto n = length-reverse (upto n) ∙ length-upto n

get_or-reverse-upto : (n k d : ℕ) → k < n → get_or (reverse (upto n)) k d ≡ n - 1 - k
get_or-reverse-upto n k d h = search (rules, length-upto, get_or-reverse, get_or-upto)

pub length-map-reverse-upto : {X : Type 0} (f : ℕ → X) (n : ℕ) → length (map f (reverse (upto n))) ≡ n
length-map-reverse-upto f n = length-map (reverse (upto n)) f ∙ length-reverse-upto n

pub get_or-map-reverse-upto : {X : Type 0} (f : ℕ → X) (n k : ℕ) (d : X) → k < n → get_or (map f (reverse (upto n))) k d ≡ f (n - 1 - k)
get_or-map-reverse-upto f n k d h = get_or-map f (reverse (upto n)) k 0 d (omega (arith, h, length-reverse-upto n)) ∙ ap f (get_or-reverse-upto n k 0 h)

-- ---- planes of zeros

pub get_or-blank : (size r : ℕ) → get_or (replicate size false) r false ≡ false
get_or-blank size r = search (rules, get_or-replicate, get_or_past, length-replicate, cases_lt)

pub get_or-blanks : (p size k r : ℕ) → get_or (get_or (replicate p (replicate size false)) k []) r false ≡ false
get_or-blanks p size k r =
    search (rules, get_or-blank, get_or-replicate, get_or_past, length-replicate, cases_lt)

-- ---- planes of lists of digits

pub length-planes_of : (w : ℕ) (coefficients : List (List Bool)) → length (planes_of w coefficients) ≡ w
length-planes_of w coefficients = length-map-reverse-upto (λ k. plane k coefficients) w

pub get_or-planes_of : (w : ℕ) (coefficients : List (List Bool)) (k : ℕ) → k < w → get_or (planes_of w coefficients) k [] ≡ plane (w - 1 - k) coefficients
get_or-planes_of w coefficients k h = get_or-map-reverse-upto (λ k. plane k coefficients) w k [] h

-- each plane has a digit of each coefficient
pub planes_of-length : (w : ℕ) (coefficients : List (List Bool)) → All (λ ds. length ds ≡ length coefficients) (planes_of w coefficients)
planes_of-length w coefficients k d h = search (rules, length-planes_of, get_or-map-reverse-upto, length-map)

-- digit r of plane k is a digit of coefficient r
pub get_or-plane : (k : ℕ) (coefficients : List (List Bool)) (r : ℕ) → get_or (plane k coefficients) r false ≡ get_or (get_or coefficients r []) k false
get_or-plane k [] r = refl
get_or-plane k (ds ∷ coefficients) zero = refl
get_or-plane k (ds ∷ coefficients) (suc r) = get_or-plane k coefficients r

-- the digits of the coefficient of rank r, of w planes that are the greatest first
abbrev pub digits_at : ℕ → List (List Bool) → ℕ → List Bool
digits_at w planes r = map (λ k. get_or (get_or planes k []) r false) (reverse (upto w))

pub length-digits_at : (w : ℕ) (planes : List (List Bool)) (r : ℕ) → length (digits_at w planes r) ≡ w
length-digits_at w planes r = length-map-reverse-upto (λ k. get_or (get_or planes k []) r false) w

pub get_or-digits_at : (w : ℕ) (planes : List (List Bool)) (r i : ℕ) → i < w → get_or (digits_at w planes r) i false ≡ get_or (get_or planes (w - 1 - i) []) r false
get_or-digits_at w planes r i h = get_or-map-reverse-upto (λ k. get_or (get_or planes k []) r false) w i false h

-- the digits of rank r of the planes of coefficients are those of coefficient r
pub digits_at-planes_of : (w : ℕ) (coefficients : List (List Bool)) (r : ℕ) → length (get_or coefficients r []) ≡ w → digits_at w (planes_of w coefficients) r ≡ get_or coefficients r []
digits_at-planes_of w coefficients r l =
    let e = length-digits_at w (planes_of w coefficients) r in
    ext_get_or false (digits_at w (planes_of w coefficients) r) (get_or coefficients r []) (e ∙ sym l)
    (λ i s.
    let h : i < w = omega (arith, s, e) in
    let back : w - 1 - (w - 1 - i) ≡ i = omega arith in
    cc (get_or-planes_of w coefficients (w - 1 - i) (omega arith), get_or-plane (w - 1 - (w - 1 - i)) coefficients r, get_or-digits_at w (planes_of w coefficients) r i h))

-- planes that have no one may be missing at the end
pub digits_at-take : (w n : ℕ) (planes : List (List Bool)) (r : ℕ) → needed_planes planes ≤ n → digits_at w (take n planes) r ≡ digits_at w planes r
digits_at-take w n planes r h = search (rules, length-digits_at, get_or-digits_at, get_or-take, get_or_past, length-take, none_at, none_past_used, cases_lt)

-- ---- planes and coefficients of a block

pub length-planes : (w : Width) (d : ℕ) (c : List ℤ) → length (planes w d c) ≡ bits w
length-planes w d c = length-planes_of (bits w) (map (digits (bits w)) (by_rank d c))

pub planes-length : (w : Width) (d : ℕ) (c : List ℤ) → All (λ ds. length ds ≡ 4 ^ d) (planes w d c)
planes-length w d c k e h = planes_of-length (bits w) (map (digits (bits w)) (by_rank d c)) k e h ∙ length-map (by_rank d c) (digits (bits w)) ∙ length-by_rank d c

pub length-coefficients_of : (w : Width) (d : ℕ) (ps : List (List Bool)) → length (coefficients_of w d ps) ≡ 4 ^ d
length-coefficients_of w d ps = length-by_place d (map (value_of w) (digits_in_planes (bits w) (4 ^ d) ps))

-- the values by rank that planes stand for
abbrev pub values_by_rank : Width → ℕ → List (List Bool) → List ℤ
values_by_rank w d ps = map (λ r. value_of w (digits_at (bits w) ps r)) (upto (4 ^ d))

pub coefficients_of-is : (w : Width) (d : ℕ) (ps : List (List Bool)) → coefficients_of w d ps ≡ by_place d (values_by_rank w d ps)
unfolding digits_in_planes
coefficients_of-is w d ps = ap (by_place d) (map-map (value_of w) (digits_at (bits w) ps) (upto (4 ^ d)))

length-values_by_rank : (w : Width) (d : ℕ) (ps : List (List Bool)) → length (values_by_rank w d ps) ≡ 4 ^ d
length-values_by_rank w d ps = length-map-upto (λ r. value_of w (digits_at (bits w) ps r)) (4 ^ d)

get_or-values_by_rank : (w : Width) (d : ℕ) (ps : List (List Bool)) (r : ℕ) → r < 4 ^ d → get_or (values_by_rank w d ps) r (pos 0) ≡ value_of w (digits_at (bits w) ps r)
get_or-values_by_rank w d ps r h = get_or-map-upto (λ r. value_of w (digits_at (bits w) ps r)) (4 ^ d) r (pos 0) h

-- the digits that the planes of values have at a rank are those of the value
digits_at-planes : (w : Width) (vs : List ℤ) (r : ℕ) → r < length vs → digits_at (bits w) (planes_of (bits w) (map (digits (bits w)) vs)) r ≡ digits (bits w) (get_or vs r (pos 0))
digits_at-planes w vs r h =
    let at = get_or-map (digits (bits w)) vs r (pos 0) [] h in
    digits_at-planes_of (bits w) (map (digits (bits w)) vs) r (ap length at ∙ length-digits (bits w) (get_or vs r (pos 0))) ∙ at

-- values of the type come back from their planes
pub coefficients_of-planes : (w : Width) (d : ℕ) (c : List ℤ) → length c ≡ 4 ^ d → All (λ v. FitsSigned w v) c → coefficients_of w d (planes w d c) ≡ c
coefficients_of-planes w d c l fits =
    let same = from_places (λ r. value_of w (digits_at (bits w) (planes w d c) r)) (4 ^ d) (pos 0) (by_rank d c) (length-by_rank d c)
    (search (rules, order_below, get_or-by_rank, digits_at-planes, length-by_rank, value_of-digits)) in
    cc (coefficients_of-is w d (planes w d c), by_place-by_rank d c l)

-- planes that have no one may be missing below
pub coefficients_of-take : (w : Width) (d n : ℕ) (ps : List (List Bool)) → needed_planes ps ≤ n → coefficients_of w d (take n ps) ≡ coefficients_of w d ps
coefficients_of-take w d n ps h = search (rules, coefficients_of-is, map-upto_same, digits_at-take)

pub coefficients_of-needed_planes : (w : Width) (d : ℕ) (c : List ℤ) → length c ≡ 4 ^ d → All (λ v. FitsSigned w v) c → coefficients_of w d (take (max 1 (needed_planes (planes w d c))) (planes w d c)) ≡ c
coefficients_of-needed_planes w d c l fits = coefficients_of-take w d (max 1 (needed_planes (planes w d c))) (planes w d c) (omega arith) ∙ coefficients_of-planes w d c l fits

-- planes of this size come back from their coefficients, with zeros for those that are missing below
pub planes-coefficients_of : (w : Width) (d : ℕ) (ps : List (List Bool)) → length ps ≤ bits w → All (λ ds. length ds ≡ 4 ^ d) ps
    → planes w d (coefficients_of w d ps) ≡ ps ++ replicate (bits w - length ps) (replicate (4 ^ d) false)
planes-coefficients_of w d ps few all =
    let vs = values_by_rank w d ps in
    let cs = map (digits (bits w)) vs in
    let missing = replicate (bits w - length ps) (replicate (4 ^ d) false) in
    let count = length-replicate (bits w - length ps) (replicate (4 ^ d) false) in
    let whole : length (ps ++ missing) ≡ bits w = omega (arith, length-append ps missing) in
    let length-cs : length cs ≡ 4 ^ d = length-map vs (digits (bits w)) ∙ length-values_by_rank w d ps in
    let digit_at : (k r : ℕ) → k < bits w → r < 4 ^ d
    → get_or (plane (bits w - 1 - k) cs) r false ≡ get_or (get_or ps k []) r false =
    λ k r h g.
    let back : bits w - 1 - (bits w - 1 - k) ≡ k = omega arith in
    let of_rank = get_or-map (digits (bits w)) vs r (pos 0) []
    (omega (arith, g, length-values_by_rank w d ps)) in
    let value = digits-value_of w (digits_at (bits w) ps r) (length-digits_at (bits w) ps r) in
    let digit = get_or-digits_at (bits w) ps r (bits w - 1 - k) (omega arith) in
    cc (get_or-plane (bits w - 1 - k) cs r, get_or-values_by_rank w d ps r g) in
    let there : (k r : ℕ) → k < bits w → r < 4 ^ d → get_or (get_or (ps ++ missing) k []) r false ≡ get_or (get_or ps k []) r false =
    λ k r h g. search (rules, cases_lt, get_or_append_left, get_or-append_right, get_or-replicate, get_or_past) in
    let plane_length : (k : ℕ) → k < bits w → length (get_or (ps ++ missing) k []) ≡ 4 ^ d =
    λ k h. All-get_or (λ ds. length ds ≡ 4 ^ d) (ps ++ missing) k [] (omega (arith, h, whole)) (search (rules, All-append, All-replicate, length-replicate)) in
    ap (λ vs. planes w d vs) (coefficients_of-is w d ps)
    ∙ ap (λ vs. planes_of (bits w) (map (digits (bits w)) vs)) (by_rank-by_place d vs (length-values_by_rank w d ps))
    ∙ ext_get_or [] (planes_of (bits w) cs) (ps ++ missing) (length-planes_of (bits w) cs ∙ sym whole)
    (λ k s.
    let h : k < bits w = omega (arith, s, length-planes_of (bits w) cs) in
    let wide : length (plane (bits w - 1 - k) cs) ≡ 4 ^ d =
    length-map cs (λ ds. get_or ds (bits w - 1 - k) false) ∙ length-cs in
    get_or-planes_of (bits w) cs k h
    ∙ ext_get_or false (plane (bits w - 1 - k) cs) (get_or (ps ++ missing) k [])
    (wide ∙ sym (plane_length k h))
    (λ r s. let g : r < 4 ^ d = omega (arith, s, wide) in digit_at k r h g ∙ sym (there k r h g)))
