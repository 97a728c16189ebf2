-- One bit as a digit; what is short, cut or one longer of the bits of a number.
use Rattle.std.proofs.Common.{◌≡◌, ℕ, ◌+◌, ◌*◌, ◌/◌, ◌%◌, ◌^◌, ◌<◌, ◌≤◌, Bool, List, [], ◌∷◌, ◌++◌, length, take, drop, refl, ap, sym, ◌∙◌, arith, length-append, lit<, rules}
use Rattle.std.{proofs.Math.Nat.{mod-eq_of_lt, mul_comm, pow-le-pow_right}, specs.Int.{from_bool}}
use Rattle.std.proofs.lemmas.Nat.{mod-pow-add, mod_low, mod_below, pow_pos, shl_whole}
use Rattle.std.proofs.lemmas.List.{take_at, drop_at}
use Rattle.zf_spec.specs.Numbers.{is_odd, digit_value, field, number}
use Rattle.zf_spec.proofs.Fields.{length-field, number-field, number-lt, number-append, field-number, field-add}

-- ---- one bit

pub digit_value_le : (b : Bool) → digit_value b ≤ 1
digit_value_le _ = search rules

pub from_bool-digit_value : (b : Bool) → from_bool b ≡ digit_value b
from_bool-digit_value _ = search rules

-- ---- fields

-- a field that is wide enough keeps its number
pub number-field_whole : (n v : ℕ) → v < 2 ^ n → number (field n v) ≡ v
number-field_whole n v h = number-field n v ∙ mod-eq_of_lt h

pub same_from_number : (xs ys : List Bool) → length xs ≡ length ys → number xs ≡ number ys → xs ≡ ys
same_from_number xs ys l e =
    sym (field-number (length xs) xs refl) ∙ ap (field (length xs)) e ∙ field-number (length xs) ys (sym l)

-- the sum that a loop makes, in a word of 64
pub number_more : (bits : List Bool) (bit : Bool) (i digit : ℕ) → length bits ≡ i → i < 64 → digit ≡ from_bool bit → (number bits + digit * 2 ^ i % 2 ^ 64 ≡ number (bits ++ bit ∷ [])) × (number (bits ++ bit ∷ []) < 2 ^ 64)
number_more bits bit i digit count within is_digit =
    let same : digit ≡ digit_value bit = is_digit ∙ from_bool-digit_value bit in
    let whole = shl_whole digit 1 i 64 (omega (arith, digit_value_le bit)) (omega arith) in
    let product : 2 ^ i * digit_value bit ≡ digit * 2 ^ i = mul_comm (2 ^ i) (digit_value bit) ∙ ap (λ d. d * 2 ^ i) (sym same) in
    let sum : number (bits ++ bit ∷ []) ≡ number bits + digit * 2 ^ i =
    number-append bits (bit ∷ []) ∙ rw count (omega (arith, product)) in
    let wide : length (bits ++ bit ∷ []) ≤ 64 = omega (arith, length-append bits (bit ∷ [])) in
    (omega (arith, whole, sum), omega (arith, number-lt (bits ++ bit ∷ []), pow-le-pow_right {n = 2} (lit< tt) wide))

-- ---- fields end to end

-- one bit more
pub field_more : (n v : ℕ) → field (n + 1) v ≡ field n v ++ is_odd (v / 2 ^ n) ∷ []
field_more n v = field-add n 1 v

pub take-field : (m n v : ℕ) → take m (field (m + n) v) ≡ field m v
take-field m n v = rw (field-add m n v) (take_at (field m v) _ m (length-field m v))

pub drop-field : (m n v : ℕ) → drop m (field (m + n) v) ≡ field n (v / 2 ^ m)
drop-field m n v = rw (field-add m n v) (drop_at (field m v) _ m (length-field m v))

-- ---- what a field does not see

-- the bits from n on, and so what a wider word drops
pub field-mod : (n k v : ℕ) → field n (v % 2 ^ (n + k)) ≡ field n v
field-mod n k v =
    let word = v % 2 ^ (n + k) in
    let order : k + n ≡ n + k = omega arith in
    let parts : word ≡ (v / 2 ^ n % 2 ^ k) * 2 ^ n + v % 2 ^ n = ap (λ j. v % 2 ^ j) (sym order) ∙ mod-pow-add v k n in
    let same : word % 2 ^ n ≡ v % 2 ^ n =
    ap (λ u. u % 2 ^ n) parts ∙ mod_low (v / 2 ^ n % 2 ^ k) n (v % 2 ^ n) (mod_below v (2 ^ n) (pow_pos n)) in
    let count = length-field n word in
    same_from_number (field n word) (field n v) (count ∙ sym (length-field n v)) (number-field n word ∙ same ∙ sym (number-field n v))
