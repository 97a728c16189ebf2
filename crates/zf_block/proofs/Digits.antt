-- Digits of coefficients, and the planes that they have.
use Rattle.zf_spec.proofs.Counting.{from_places}
use Rattle.std.{proofs.lemmas.Simd.{map-map}, proofs.lemmas.List.{length-map, get_or-map, length-take-le}}
use Rattle.std.proofs.Common.{◌≡◌, sym, ap, ◌∙◌, ℕ, ◌≤◌, ◌^◌, ◌+◌, ◌*◌, ℤ, List, [], map, length, take, get_or, All, arith, rules}
use Rattle.std.{specs.Int.{Width}, proofs.lemmas.List.Elements.{All-take}}
use mir.Val.{bits}
use Rattle.zf_spec.{specs.Numbers.{field, digits, value_of}, proofs.Fields.{length-field}}
use Rattle.zf_spec.{specs.Planes.{planes_of, digits_in_planes, code}, specs.Codes.{planes, coefficients_of}}
use Rattle.zf_spec.{proofs.Negabinary.{digits-value_of}}
use Rattle.zf_spec.{proofs.Ranking.{by_rank-by_place}, proofs.PlaneCode.{length-code-le}}
use Rattle.zf_spec.proofs.PlaneDigits.{digits_at, digits_at-planes_of, length-planes_of, planes_of-length}
use Rattle.zf_coef.specs.HeldDigits.{digits_in, ranked_digits, unranked_values}

-- the planes of the digits of a block's coefficients by rank are the block's
pub planes_of-ranked : (w : Width) (d n : ℕ) (coefficients : List ℤ) (words : List ℕ) → n ≡ bits w → digits_in (bits w) words ≡ ranked_digits w d coefficients
    → planes_of n (digits_in n words) ≡ planes w d coefficients
planes_of-ranked w d n coefficients words width by_rank = ap (λ k. planes_of k (digits_in k words)) width ∙ ap (planes_of (bits w)) by_rank

-- digits by rank are those of the coefficients that they stand for
pub ranked-unranked : (w : Width) (d : ℕ) (words : List ℕ) → length words ≡ 4 ^ d → ranked_digits w d (unranked_values w d (digits_in (bits w) words)) ≡ digits_in (bits w) words
ranked-unranked w d words size =
    let values = map (value_of w) (digits_in (bits w) words) in
    let long : length values ≡ 4 ^ d = length-map (digits_in (bits w) words) (value_of w) ∙ length-map words (field (bits w)) ∙ size in
    let back : map (digits (bits w)) values ≡ digits_in (bits w) words = search (rules, map-map, digits-value_of, length-field) in
    cc (by_rank-by_place d values long)

-- the planes of digits have these digits
pub digits_in_planes-planes_of : (w : ℕ) (words : List ℕ) → digits_in_planes w (length words) (planes_of w (digits_in w words)) ≡ digits_in w words
unfolding digits_in_planes
digits_in_planes-planes_of w words =
    let digits = digits_in w words in
    from_places (digits_at w (planes_of w digits)) (length words) [] digits (length-map words (field w))
    (λ r within.
    let wide : length (get_or digits r []) ≡ w = ap length (get_or-map (field w) words r 0 [] within) ∙ length-field w (get_or words r 0) in
    sym (digits_at-planes_of w digits r wide))

-- the values that digits stand for are those that their planes stand for
pub coefficients_of-planes_of : (w : Width) (d n : ℕ) (words : List ℕ) → n ≡ bits w → length words ≡ 4 ^ d
    → unranked_values w d (digits_in (bits w) words) ≡ coefficients_of w d (planes_of n (digits_in n words))
coefficients_of-planes_of w d n words width size = cc (digits_in_planes-planes_of (bits w) words)

-- the code of the top planes of so many digits has at most a bit for each digit and one more for each coefficient
pub length-code_digits-le : (prec w : ℕ) (words : List ℕ) → prec ≤ w → length (code (take prec (planes_of w (digits_in w words)))) ≤ length words * prec + length words
length-code_digits-le prec w words within =
    let size = length words in
    let digits = digits_in w words in
    let ps = planes_of w digits in
    let all : All (λ ds. length ds ≡ size) ps = λ k e h. planes_of-length w digits k e h ∙ length-map words (field w) in
    let long : length (take prec ps) ≡ prec = length-take-le prec ps (omega (arith, length-planes_of w digits)) in
    rw long at (length-code-le size (take prec ps) (All-take (λ ds. length ds ≡ size) prec ps all))
