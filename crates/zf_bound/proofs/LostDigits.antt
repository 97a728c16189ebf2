-- What the digits below a plane come to: where digits from the plane up are the same, values differ by less than 2^k.
use Rattle.std.proofs.Common.{◌≡◌, refl, sym, ap, subst, ◌∙◌, ℕ, zero, suc, ◌+◌, ◌-◌, ◌^◌, ◌<◌, ◌≤◌, Bool, true, false, ℤ, pos, negsuc, ◌+ℤ◌, ◌-ℤ◌, ◌*ℤ◌, List, [], ◌∷◌, map, length, get_or, take, ⊎_elim, get_or-take, pow-suc, arith, rules}
use Rattle.std.{specs.Int.RustNames.{unsigned_abs}, specs.Int.{Width}, proofs.lemmas.Bool.{cases_lt}}
use Rattle.std.{proofs.lemmas.List.{get_or_past, get_or-map}, proofs.lemmas.Int.{ints}}
use Rattle.std.proofs.Math.Nat.{one-le-pow}
use mir.Val.{bits, hbits}
use Rattle.zf_spec.specs.Numbers.{IsSameModulo, digit_value, digits_sum, digits, value_of}
use Rattle.zf_spec.{specs.Ranks.{by_rank}, specs.Codes.{planes, coefficients_of}}
use Rattle.zf_spec.proofs.Wrapping.{same_modulo_refl, same_modulo_add, wrap_from_same}
use Rattle.zf_spec.{proofs.Negabinary.{length-digits, digits_sum-digits}, proofs.Counting.{get_or-map-upto}}
use Rattle.zf_spec.proofs.Ranking.{rank_of, rank_of_below, order-rank_of, length-by_rank, get_or-by_rank, get_or-by_place}
use Rattle.zf_spec.proofs.PlaneDigits.{digits_at, length-digits_at, get_or-digits_at, digits_at-planes_of, coefficients_of-is, values_by_rank, length-coefficients_of}
use Rattle.zf_bound.{specs.Errors.{AreWithin, AreClose, lost_below}, proofs.NoWrap.{whole}}
use Rattle.zf_bound.proofs.Lines.{IsNear, zero_within}

-- ---- sums of digits

-- one digit and twice what the others are apart
digit_apart : (d e : Bool) (s t : ℤ) (k : ℕ) → unsigned_abs (t -ℤ s) ≤ 2 ^ k - 1
    → unsigned_abs ((pos (digit_value e) +ℤ negsuc 1 *ℤ t) -ℤ (pos (digit_value d) +ℤ negsuc 1 *ℤ s)) ≤ 2 ^ suc k - 1
digit_apart true true s t k h = omega (arith, ints, h, pow-suc 2 k, one-le-pow k 2 (omega arith))
digit_apart false false s t k h = omega (arith, ints, h, pow-suc 2 k, one-le-pow k 2 (omega arith))
digit_apart d e s t k h = omega (arith, ints, h, pow-suc 2 k, one-le-pow k 2 (omega arith))

-- digits that are the same from digit k up
abbrev pub AreSameFrom : ℕ → List Bool → List Bool → Type 0
AreSameFrom k ds es = (i : ℕ) → k ≤ i → get_or ds i false ≡ get_or es i false

same_digits : (ds es : List Bool) → length ds ≡ length es → AreSameFrom 0 ds es → ds ≡ es
same_digits [] [] l same = refl
same_digits (d ∷ ds) (e ∷ es) l same =
    let first : d ≡ e = same 0 (omega arith) in
    let rest = same_digits ds es (omega arith) (λ i h. same (suc i) (omega arith)) in
    cc
same_digits ds es l same = absurd (omega arith)

-- the sums of such digits are less than 2^k apart
pub digits_apart : (k : ℕ) (ds es : List Bool) → length ds ≡ length es → AreSameFrom k ds es → unsigned_abs (digits_sum es -ℤ digits_sum ds) ≤ lost_below k
digits_apart zero ds es l same = let e = ap digits_sum (same_digits ds es l same) in omega (arith, ints, e)
digits_apart (suc k) [] [] l same = omega (arith, ints)
digits_apart (suc k) (d ∷ ds) (e ∷ es) l same =
    digit_apart d e (digits_sum ds) (digits_sum es) k (digits_apart k ds es (omega arith) (λ i h. same (suc i) (omega arith)))
digits_apart k ds es l same = absurd (omega arith)

-- ---- values

sum_of_near : (v δ : ℤ) (m n : ℕ) (k : ℕ) → m + n < k → unsigned_abs v ≤ m → unsigned_abs δ ≤ n → unsigned_abs (v +ℤ δ) < k
sum_of_near v δ m n k room f g = omega (arith, ints, room, f, g)

-- a value whose digits from k up stay: nothing wraps where the value is small
pub value_near : (w : Width) (v : ℤ) (es : List Bool) (m k : ℕ) → m + lost_below k < 2 ^ hbits w → unsigned_abs v ≤ m → length es ≡ bits w → AreSameFrom k (digits (bits w) v) es
    → IsNear (lost_below k) v (value_of w es)
value_near w v es m k room small l same = plain (value_of w es) v δ (lost_below k) is lost
  where
    δ : ℤ
    δ = digits_sum es -ℤ digits_sum (digits (bits w) v)

    lost : unsigned_abs δ ≤ lost_below k
    lost = digits_apart k (digits (bits w) v) es (length-digits (bits w) v ∙ sym l) same

    -- the sum of the digits is v and what is lost, but for a multiple
    same_number : IsSameModulo (bits w) (digits_sum es) (v +ℤ δ)
    same_number = let again : digits_sum (digits (bits w) v) +ℤ δ ≡ digits_sum es = omega (arith, ints) in subst (λ s. IsSameModulo (bits w) s (v +ℤ δ)) again
        (same_modulo_add (bits w) (digits_sum (digits (bits w) v)) v δ δ (digits_sum-digits (bits w) v) (same_modulo_refl (bits w) δ))

    is : value_of w es ≡ v +ℤ δ
    is = wrap_from_same w (digits_sum es) (v +ℤ δ) same_number ∙ whole w (v +ℤ δ) (sum_of_near v δ m (lost_below k) _ room small lost)

    plain : (u v δ : ℤ) (n : ℕ) → u ≡ v +ℤ δ → unsigned_abs δ ≤ n → unsigned_abs (u -ℤ v) ≤ n
    plain u v δ n e f = omega (arith, ints, e, f)

-- ---- coefficients

-- the digits of a coefficient in planes that are the same from plane k up
digits_same : (w : ℕ) (ps qs : List (List Bool)) (r k : ℕ) → k ≤ w → take (w - k) qs ≡ take (w - k) ps → AreSameFrom k (digits_at w ps r) (digits_at w qs r)
digits_same w ps qs r k few same i above = search (rules, get_or-digits_at, get_or-take, get_or_past, digits_at, length-digits_at, cases_lt)

-- the coefficient at a place, of planes
coefficient_at : (w : Width) (d : ℕ) (ps : List (List Bool)) (p : ℕ) → p < 4 ^ d → get_or (coefficients_of w d ps) p (pos 0) ≡ value_of w (digits_at (bits w) ps (rank_of d p))
coefficient_at w d ps p h = search (rules, coefficients_of-is, get_or-by_place, values_by_rank, get_or-map-upto, digits_at, rank_of, rank_of_below)

-- the digits of a coefficient, in its planes
digits_of_place : (w : Width) (d : ℕ) (c : List ℤ) (p : ℕ) → p < 4 ^ d → digits_at (bits w) (planes w d c) (rank_of d p) ≡ digits (bits w) (get_or c p (pos 0))
digits_of_place w d c p h =
    let vs = by_rank d c in
    let r = rank_of d p in
    let below = rank_of_below d p h in
    let at : get_or (map (digits (bits w)) vs) r [] ≡ digits (bits w) (get_or vs r (pos 0)) = get_or-map (digits (bits w)) vs r (pos 0) [] (omega (arith, below, length-by_rank d c)) in
    let value : get_or vs r (pos 0) ≡ get_or c p (pos 0) = get_or-by_rank d c r below ∙ ap (λ q. get_or c q (pos 0)) (order-rank_of d p h) in
    digits_at-planes_of (bits w) (map (digits (bits w)) vs) r (ap length at ∙ length-digits (bits w) (get_or vs r (pos 0))) ∙ at ∙ ap (digits (bits w)) value

-- where planes from plane k up stay, coefficients within m lose less than 2^k
pub coefficients_close : (w : Width) (d : ℕ) (c : List ℤ) (qs : List (List Bool)) (m k : ℕ) → length c ≡ 4 ^ d → k ≤ bits w → m + lost_below k < 2 ^ hbits w
    → AreWithin m c → take (bits w - k) qs ≡ take (bits w - k) (planes w d c) → AreClose (lost_below k) c (coefficients_of w d qs)
coefficients_close w d c qs m k l few room small same p = ⊎_elim
    (λ inside.
    let r = rank_of d p in
    subst (λ v. IsNear (lost_below k) (get_or c p (pos 0)) v) (sym (coefficient_at w d qs p inside))
    (value_near w (get_or c p (pos 0)) (digits_at (bits w) qs r) m k room (small p) (length-digits_at (bits w) qs r)
    (subst (λ ds. AreSameFrom k ds (digits_at (bits w) qs r)) (digits_of_place w d c p inside) (digits_same (bits w) (planes w d c) qs r k few same))))
    (λ past.
    subst (λ v. IsNear (lost_below k) v (get_or (coefficients_of w d qs) p (pos 0))) (sym (get_or_past c p (pos 0) (omega (arith, past, l))))
    (subst (λ v. IsNear (lost_below k) (pos 0) v) (sym (get_or_past (coefficients_of w d qs) p (pos 0) (omega (arith, past, length-coefficients_of w d qs)))) (zero_within (lost_below k))))
    (cases_lt p (4 ^ d))
