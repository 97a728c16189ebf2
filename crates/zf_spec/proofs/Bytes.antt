-- Bytes of bits, and the bytes of numbers.
use Rattle.std.proofs.Common.{rules, ◌≡◌, refl, sym, ap, subst, ◌∙◌, ℕ, zero, suc, ◌+◌, ◌-◌, ◌*◌, ◌/◌, ◌%◌, ◌^◌, ◌<◌, ◌≤◌, Bool, false, List, [], ◌∷◌, ◌++◌, length, get_or, take, drop, replicate, All, pow-suc, mod-eq_of_lt, take-append-drop, take_at, drop_at, take_all, take-take, get_or-take, arith}
use Rattle.std.{proofs.Math.Nat.{div-one, div-div-eq-div-mul}, proofs.Math.Seq.{drop-nil}}
use Rattle.std.proofs.lemmas.List.{length-append, length-take, length-drop, length-replicate}
use Rattle.std.proofs.lemmas.List.Elements.{All-head, All-tail, All-nil, All-cons}
use Rattle.std.specs.Int.{Width, div_ceil, byte_len, byte_at, byte_worth, bytes_low_first, sum_through, to_le_bytes, from_le_bytes}
use mir.Val.{bits}
use Rattle.zf_spec.{specs.Numbers.{field}, proofs.Fields.{length-field, number-field, field-number}}
use Rattle.zf_spec.specs.Stream.{fill, with_fill, bytes_from, to_bytes, to_bits, first_bytes}

-- ---- bytes of bits

to_bits-bytes_from : (n : ℕ) (bs : List Bool) → length bs ≡ 8 * n → to_bits (bytes_from n bs) ≡ bs
to_bits-bytes_from zero [] l = refl
to_bits-bytes_from zero (b ∷ bs) l = absurd (omega arith)
to_bits-bytes_from (suc n) bs l =
    let first = field-number 8 (take 8 bs) (omega (arith, length-take 8 bs)) in
    let rest = to_bits-bytes_from n (drop 8 bs) (omega (arith, length-drop 8 bs)) in
    cc (take-append-drop 8 bs)

-- whole bytes of bits come back from their bytes
pub to_bits-to_bytes : (bs : List Bool) → length bs % 8 ≡ 0 → to_bits (to_bytes bs) ≡ bs
to_bits-to_bytes bs h = to_bits-bytes_from (length bs / 8) bs (omega arith)

pub length-to_bits : (bytes : List ℕ) → length (to_bits bytes) ≡ 8 * length bytes
length-to_bits [] = refl
length-to_bits (b ∷ bytes) = omega (arith, length-append (field 8 b) (to_bits bytes), length-field 8 b, length-to_bits bytes)

length-bytes_from : (n : ℕ) (bs : List Bool) → length (bytes_from n bs) ≡ n
length-bytes_from zero bs = refl
length-bytes_from (suc n) bs = ap suc (length-bytes_from n (drop 8 bs))

pub length-to_bytes : (bs : List Bool) → length (to_bytes bs) ≡ length bs / 8
length-to_bytes bs = length-bytes_from (length bs / 8) bs

bytes_from-to_bits : (bytes : List ℕ) → All (λ b. b < 256) bytes → bytes_from (length bytes) (to_bits bytes) ≡ bytes
bytes_from-to_bits [] all = refl
bytes_from-to_bits (b ∷ bytes) all =
    let prefix = take_at (field 8 b) (to_bits bytes) 8 (length-field 8 b) in
    let rest = drop_at (field 8 b) (to_bits bytes) 8 (length-field 8 b) in
    let byte = mod-eq_of_lt (All-head (λ b. b < 256) b bytes all) in
    let others = bytes_from-to_bits bytes (All-tail (λ b. b < 256) b bytes all) in
    cc (number-field 8 b)

-- bytes come back from their bits
pub to_bytes-to_bits : (bytes : List ℕ) → All (λ b. b < 256) bytes → to_bytes (to_bits bytes) ≡ bytes
to_bytes-to_bits bytes all = grind (arith, length-to_bits bytes, bytes_from-to_bits bytes all)

-- ---- the fill

pub length-fill : (bs : List Bool) → length (fill bs) ≡ (64 - length bs % 64) % 64
length-fill bs = length-replicate _ _

pub fill_whole : (bs : List Bool) → (length bs + length (fill bs)) % 64 ≡ 0
fill_whole bs = omega (arith, length-fill bs)

pub fill_short : (bs : List Bool) → length (fill bs) < 64
fill_short bs = omega (arith, length-fill bs)

pub length-with_fill : (bs : List Bool) → length (with_fill bs) % 64 ≡ 0
length-with_fill bs = omega (arith, length-append bs (replicate ((64 - length bs % 64) % 64) false), length-replicate ((64 - length bs % 64) % 64) false)

-- so many whole words of bytes
pub length-filled_bytes : (bs : List Bool) → length (with_fill bs) / 8 ≡ 8 * div_ceil (length bs) 64
length-filled_bytes bs = omega (arith, length-append bs (fill bs), length-fill bs)

pub filled_zeros : (bs : List Bool) → (n : ℕ) × (n < 64) × (with_fill bs ≡ bs ++ replicate n false)
filled_zeros bs = ((64 - length bs % 64) % 64, omega arith, refl)

-- the fill is the only one of less than 64 zeros that ends a word
pub filled_only : (bs : List Bool) (n : ℕ) → n < 64 → (length bs + n) % 64 ≡ 0 → with_fill bs ≡ bs ++ replicate n false
filled_only bs n h e = search rules

-- ---- the first bytes of bytes that are continued with zeros

pub length-first_bytes : (n : ℕ) (s : List ℕ) → length (first_bytes n s) ≡ n
length-first_bytes zero s = refl
length-first_bytes (suc n) s = let rest = length-first_bytes n in search rules

pub All-first_bytes : (n : ℕ) (s : List ℕ) → All (λ b. b < 256) s → All (λ b. b < 256) (first_bytes n s)
All-first_bytes zero s all = All-nil (λ b. b < 256)
All-first_bytes (suc n) [] all = All-cons (λ b. b < 256) 0 (first_bytes n []) (omega arith) (All-first_bytes n [] all)
All-first_bytes (suc n) (b ∷ s) all = All-cons (λ b. b < 256) b (first_bytes n s) (All-head (λ b. b < 256) b s all) (All-first_bytes n s (All-tail (λ b. b < 256) b s all))

pub first_bytes-append : (xs ys : List ℕ) → first_bytes (length xs) (xs ++ ys) ≡ xs
first_bytes-append [] ys = refl
first_bytes-append (x ∷ xs) ys = ap (λ zs. x ∷ zs) (first_bytes-append xs ys)

pub first_bytes-all : (s : List ℕ) → first_bytes (length s) s ≡ s
first_bytes-all [] = refl
first_bytes-all (b ∷ s) = ap (λ zs. b ∷ zs) (first_bytes-all s)

pub first_bytes-add : (m n : ℕ) (s : List ℕ) → first_bytes (m + n) s ≡ first_bytes m s ++ first_bytes n (drop m s)
first_bytes-add zero n s = let e : zero + n ≡ n = omega arith in rw e refl
first_bytes-add (suc m) n s =
    let e : suc m + n ≡ suc (m + n) = omega arith in let rest = first_bytes-add m n in search (rules, drop-nil)

-- ---- the bytes of a number, the lowest first: std's words by recursion

low_bytes : ℕ → ℕ → List ℕ
low_bytes zero n = []
low_bytes (suc k) n = n % 256 ∷ low_bytes k (n / 256)

low_number : List ℕ → ℕ
low_number [] = 0
low_number (b ∷ bs) = b + 256 * low_number bs

length-low_bytes : (k n : ℕ) → length (low_bytes k n) ≡ k
unfolding low_bytes
length-low_bytes zero n = refl
length-low_bytes (suc k) n = ap suc (length-low_bytes k (n / 256))

low_bytes_small : (k n : ℕ) → All (λ b. b < 256) (low_bytes k n)
unfolding low_bytes
low_bytes_small zero n = All-nil (λ b. b < 256)
low_bytes_small (suc k) n = All-cons (λ b. b < 256) (n % 256) (low_bytes k (n / 256)) (omega arith) (low_bytes_small k (n / 256))

low_number-low_bytes : (k n : ℕ) → n < 256 ^ k → low_number (low_bytes k n) ≡ n
unfolding low_bytes low_number
low_number-low_bytes zero n h = omega arith
low_number-low_bytes (suc k) n h = let rest = low_number-low_bytes k (n / 256) (omega arith) in omega arith

low_bytes-low_number : (bs : List ℕ) → All (λ b. b < 256) bs → low_bytes (length bs) (low_number bs) ≡ bs
unfolding low_bytes low_number
low_bytes-low_number [] all = refl
low_bytes-low_number (b ∷ bs) all =
    let small : b < 256 = All-head (λ b. b < 256) b bs all in
    let rest = low_bytes-low_number bs (All-tail (λ b. b < 256) b bs all) in search rules

low_number_below : (bs : List ℕ) → All (λ b. b < 256) bs → low_number bs < 256 ^ length bs
unfolding low_number
low_number_below [] all = omega arith
low_number_below (b ∷ bs) all =
    let small : b < 256 = All-head (λ b. b < 256) b bs all in
    omega (arith, pow-suc 256 (length bs), low_number_below bs (All-tail (λ b. b < 256) b bs all))

byte_at-is : (i n : ℕ) → byte_at i n ≡ n / 256 ^ i % 256
byte_at-is zero n = ap (λ m. m % 256) (sym (div-one n))
byte_at-is (suc i) n = refl

bytes_low_first-is : (i k n : ℕ) → bytes_low_first i k n ≡ low_bytes k (n / 256 ^ i)
unfolding low_bytes
bytes_low_first-is i zero n = refl
bytes_low_first-is i (suc k) n =
    let next : n / 256 ^ suc i ≡ n / 256 ^ i / 256 = ap (λ p. n / p) (pow-suc 256 i) ∙ sym (div-div-eq-div-mul n (256 ^ i) 256) in
    cc (byte_at-is i n, bytes_low_first-is (suc i) k n)

-- one more byte at the end
low_number-push : (bs : List ℕ) (k : ℕ) → length bs ≡ suc k → low_number bs ≡ low_number (take k bs) + get_or bs k 0 * 256 ^ k
unfolding low_number
low_number-push (b ∷ []) zero l = omega arith
low_number-push (b ∷ bs) (suc k) l =
    omega (arith, low_number-push bs k (omega arith), ap (λ p. get_or bs k 0 * p) (pow-suc 256 k))
low_number-push bs k l = absurd (omega arith)

sum_through-is : (bs : List ℕ) (k : ℕ) → suc k ≤ length bs → sum_through (λ i. byte_worth i (get_or bs i 0)) k ≡ low_number (take (suc k) bs)
unfolding low_number
sum_through-is [] zero l = absurd (omega arith)
sum_through-is (b ∷ bs) zero l = omega arith
sum_through-is bs (suc k) l =
    let push = low_number-push (take (suc (suc k)) bs) (suc k) (length-take (suc (suc k)) bs ∙ omega arith) in
    let rest = sum_through-is bs k (omega arith) in search (rules, low_number, take-take, get_or-take)

byte_len-some : (w : Width) → suc (byte_len w - 1) ≡ byte_len w
byte_len-some w = grind arith

byte_len-bits : (w : Width) → 256 ^ byte_len w ≡ 2 ^ bits w
byte_len-bits w = grind arith

from_le_bytes-is : (w : Width) (bs : List ℕ) → length bs ≡ byte_len w → from_le_bytes w bs ≡ low_number bs
from_le_bytes-is w bs l =
    let some = byte_len-some w in
    sum_through-is bs (byte_len w - 1) (omega arith) ∙ ap low_number (take_all (suc (byte_len w - 1)) bs (omega arith))

to_le_bytes-is : (w : Width) (n : ℕ) → to_le_bytes w n ≡ low_bytes (byte_len w) n
to_le_bytes-is w n = bytes_low_first-is 0 (byte_len w) n ∙ ap (low_bytes (byte_len w)) (div-one n)

-- ---- std's bytes of a number of any width

pub length-to_le_bytes : (w : Width) (n : ℕ) → length (to_le_bytes w n) ≡ byte_len w
length-to_le_bytes w n = ap length (to_le_bytes-is w n) ∙ length-low_bytes (byte_len w) n

pub to_le_bytes_small : (w : Width) (n : ℕ) → All (λ b. b < 256) (to_le_bytes w n)
to_le_bytes_small w n = subst (All (λ b. b < 256)) (sym (to_le_bytes-is w n)) (low_bytes_small (byte_len w) n)

pub from_le_bytes-to_le_bytes : (w : Width) (n : ℕ) → n < 2 ^ bits w → from_le_bytes w (to_le_bytes w n) ≡ n
from_le_bytes-to_le_bytes w n h =
    let low = low_number-low_bytes (byte_len w) n (omega (arith, h, byte_len-bits w)) in
    cc (from_le_bytes-is w (to_le_bytes w n) (length-to_le_bytes w n), to_le_bytes-is w n)

pub to_le_bytes-from_le_bytes : (w : Width) (bs : List ℕ) → length bs ≡ byte_len w → All (λ b. b < 256) bs → to_le_bytes w (from_le_bytes w bs) ≡ bs
to_le_bytes-from_le_bytes w bs l all = search (rules, from_le_bytes-is, to_le_bytes-is, low_number, low_bytes, low_bytes-low_number)

pub from_le_bytes_below : (w : Width) (bs : List ℕ) → length bs ≡ byte_len w → All (λ b. b < 256) bs → from_le_bytes w bs < 2 ^ bits w
from_le_bytes_below w bs l all =
    omega (arith, from_le_bytes-is w bs l, low_number_below bs all, ap (λ k. 256 ^ k) l, byte_len-bits w)
