-- The digits that any coefficient has, and the planes that are needed.
use Rattle.std.proofs.Common.{rules, ◌≡◌, refl, sym, ap, ◌∙◌, ℕ, suc, ◌-◌, ◌/◌, ◌%◌, ◌^◌, ◌*◌, ◌+◌, ◌<◌, ◌≤◌, ⊎_elim, Bool, true, false, ◌||◌, eqb, List, [], ◌∷◌, ◌++◌, get_or, get_or-take, ext_get_or, length, take, replicate, mod-lt, pow-suc, arith}
use Rattle.std.{specs.Int.{bit_at, trailing_zeros, leading_zeros, w64}, specs.Int.RustNames.{bit_or}}
use Rattle.std.{specs.Int.Count.{trailing_of_zero, leading_of_zero}, proofs.Math.Nat.{div-eq_of_lt-le}, proofs.lemmas.Bool.{cases_lt, cases_eq}}
use Rattle.std.proofs.lemmas.List.{map-append, get_or_past, get_or-map, length-map, length-take, length-replicate, get_or-replicate}
use Rattle.std.proofs.lemmas.Nat.Bits.{bit_at_or, bit_at-zero, bit_at-trailing_zeros, bit_at_above}
use Rattle.std.proofs.lemmas.Nat.{leading_length, leading_top, pow_pos}
use Rattle.zf_spec.{specs.Numbers.{field, is_odd, digit_value}, proofs.Fields.{get_or-field}}
use Rattle.zf_spec.specs.Planes.{plane, planes_of, has_one, needed_planes}
use Rattle.zf_spec.proofs.PlaneDigits.{get_or-planes_of, length-planes_of, get_or-plane}
use Rattle.zf_spec.{proofs.Reach.{used_only, zeros_from_none, none_at}, proofs.Halves.{digit_value-is_odd}}
use Rattle.zf_coef.{specs.HeldDigits.{digits_in}, specs.Turned.{bit_of}}
use Rattle.zf_coef.proofs.ShiftedBits.{bit_at-mod, bit_at-shl_high}

has_one-last : (ds : List Bool) (d : Bool) → has_one (ds ++ d ∷ []) ≡ (has_one ds || d)
has_one-last [] d = grind arith
has_one-last (true ∷ ds) d = refl
has_one-last (false ∷ ds) d = has_one-last ds d

-- a bit of words that are put together is one where one of theirs is
odd_or : (a b k : ℕ) → is_odd (bit_or a b / 2 ^ k) ≡ (is_odd (a / 2 ^ k) || is_odd (b / 2 ^ k))
odd_or a b k = search (rules, bit_at_or, cases_eq)

-- so many digits have a one where their planes have one
abbrev pub IsAny : ℕ → List ℕ → Type 0
IsAny any digits = (n k : ℕ) → k < n → is_odd (any / 2 ^ k) ≡ has_one (plane k (digits_in n digits))

pub any_none : IsAny 0 []
any_none n k h = ap (λ b. eqb b 1) (bit_at-zero k)

pub any_more : (any v : ℕ) (digits : List ℕ) → IsAny any digits → IsAny (bit_or any v) (digits ++ v ∷ [])
any_more any v digits before n k h = search (rules, odd_or, get_or-field, has_one-last, map-append)

-- the planes from the lowest digit upward are needed
pub needed-is : (any width : ℕ) (digits : List ℕ) → width ≤ 64 → any < 2 ^ 64 → IsAny any digits
    → width - trailing_zeros w64 any ≡ needed_planes (planes_of width (digits_in width digits))
needed-is any width digits within word is =
    let ps = planes_of width (digits_in width digits) in
    let low = trailing_zeros w64 any in
    let bits = bit_at-trailing_zeros w64 any in
    let none : any ≡ 0 → low ≡ 64 = λ zero. ap (trailing_zeros w64) zero ∙ trailing_of_zero 64 in
    let has : (k : ℕ) → k < width → has_one (get_or ps k []) ≡ eqb (bit_at any (width - 1 - k)) 1 =
    λ k below. ap has_one (get_or-planes_of width (digits_in width digits) k below)
    ∙ sym (is width (width - 1 - k) (omega arith)) in
    let clear : (j : ℕ) → j < low → bit_at any j ≡ 0 = λ j below. ⊎_elim
    (λ (zero : any ≡ 0). ap (λ n. bit_at n j) zero ∙ bit_at-zero j)
    (λ some. (bits (omega arith) word).2 j below)
    (cases_eq any 0) in
    used_only ps (width - low)
    (λ k past. ⊎_elim
    (λ (below : k < width). has k below ∙ ap (λ b. eqb b 1) (clear (width - 1 - k) (omega arith)))
    (λ past.
    ap has_one (get_or_past ps k [] (omega (arith, length-planes_of width (digits_in width digits)))))
    (cases_lt k width))
    (λ k last. ⊎_elim
    (λ (zero : any ≡ 0). absurd (omega (arith, none zero)))
    (λ some.
    let lowest : width - 1 - k ≡ low = omega arith in
    rw (has k (omega arith), lowest) (ap (λ b. eqb b 1) (bits (omega arith) word).1))
    (cases_eq any 0))

-- above the greatest digit that any has, no plane has a one
pub leading_zero_planes : (any w r : ℕ) (digits : List ℕ) → w ≤ 64 → IsAny any digits → r ≤ w → r ≤ leading_zeros w64 (any * 2 ^ (64 - w) % 2 ^ 64)
    → take r (planes_of w (digits_in w digits)) ≡ replicate r (replicate (length digits) false)
leading_zero_planes any w r digits within is few zeros =
    let coefficients = digits_in w digits in
    let ps = planes_of w coefficients in
    let blank = replicate (length digits) false in
    ext_get_or [] (take r ps) (replicate r blank) (omega (arith, length-take r ps, length-planes_of w coefficients, length-replicate r blank))
    (λ j low.
    let below : j < r = omega (arith, length-take r ps) in
    let one = plane (w - 1 - j) coefficients in
    let none : has_one one ≡ false =
    sym (is w (w - 1 - j) (omega arith)) ∙ ap (λ b. eqb b 1) (zero_at j below) in
    search (rules, get_or-take, get_or-planes_of, zeros_from_none, length-map, get_or-replicate))
  where
    zero_at : (j : ℕ) → j < r → bit_at any (w - 1 - j) ≡ 0
    zero_at j below =
        let s = 64 - w in
        let i = 63 - j in
        let a = any * 2 ^ s % 2 ^ 64 in
        let top = leading_length 64 a (mod-lt (any * 2 ^ s) (pow_pos 64)) in
        let sum : leading_zeros w64 a + top.0 ≡ 64 = top.1 in
        let place : i - s ≡ w - 1 - j = omega arith in
        let none = bit_at_above a top.0 i top.2 (omega arith) in
        cc (bit_at-mod (any * 2 ^ s) i (omega arith), bit_at-shl_high any s i (omega arith))

-- and the plane behind them has one
pub next_has_one : (any w r : ℕ) (digits : List ℕ) → w ≤ 64 → IsAny any digits → r ≡ leading_zeros w64 (any * 2 ^ (64 - w) % 2 ^ 64) → r < w → has_one (plane (w - 1 - r) (digits_in w digits)) ≡ true
next_has_one any w r digits within is count few =
    let s = 64 - w in
    let a = any * 2 ^ s % 2 ^ 64 in
    let some : 0 < a = ⊎_elim
    (λ (none : a ≡ 0). absurd (omega (arith, count, ap (leading_zeros w64) none, leading_of_zero 64)))
    (λ one. omega arith)
    (cases_eq a 0) in
    let top = leading_top 64 a some (mod-lt (any * 2 ^ s) (pow_pos 64)) in
    let sum : leading_zeros w64 a + suc top.0 ≡ 64 = top.1 in
    let place : top.0 - s ≡ w - 1 - r = omega arith in
    let one : a / 2 ^ top.0 ≡ 1 = div-eq_of_lt-le (2 ^ top.0) (omega (arith, top.2)) (omega (arith, top.3, pow-suc 2 top.0)) in
    let bit : bit_at any (w - 1 - r) ≡ 1 =
    ap (bit_at any) (sym place) ∙ sym (bit_at-shl_high any s top.0 (omega arith)) ∙ sym (bit_at-mod (any * 2 ^ s) top.0 (omega arith)) ∙ ap (λ n. n % 2) one in
    sym (is w (w - 1 - r) (omega arith)) ∙ ap (λ b. eqb b 1) bit

-- where no digit is so great, none has a one from that place on
pub none_from : (any from : ℕ) (digits : List ℕ) → IsAny any digits → any < 2 ^ from → (r k : ℕ) → from ≤ k → k < 64 → bit_of digits r k ≡ 0
none_from any from digits is few r k past small = ⊎_elim
    (λ (inside : r < length digits).
    let one = plane k (digits_in 64 digits) in
    let none : has_one one ≡ false = sym (is 64 k small) ∙ ap (λ b. eqb b 1) (bit_at_above any from k few past) in
    let of_rank = get_or-map (field 64) digits r 0 [] inside in
    let even : is_odd (get_or digits r 0 / 2 ^ k) ≡ false =
    cc (get_or-plane k (digits_in 64 digits) r, get_or-field 64 _ k false small, none_at one r none) in
    omega (arith, digit_value-is_odd (get_or digits r 0 / 2 ^ k), ap digit_value even))
    (search (rules, get_or_past, bit_at-zero))
    (cases_lt r (length digits))
