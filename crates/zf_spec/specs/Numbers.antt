-- Wrapped numbers and their halves, negabinary digits, and the bits of a word.
--     A value of a type is a whole number ℤ with `FitsSigned w`, for w = w32 (int32) or w64 (int64); a word is a ℕ.
--     A bit or a digit is a Bool, and a list of bits has its first bit first.
use Rattle.std.specs.Prelude.{ℕ, suc, zero, ◌+◌, ◌*◌, ◌/◌, ◌%◌, ◌^◌, ◌≡◌, ◌==◌, ℤ, pos, negsuc, ◌+ℤ◌, ◌*ℤ◌, neg_ℤ, Bool, not, List, [], ◌∷◌, if◌then◌else◌, All, FitsSigned}
use Rattle.std.specs.List.{flat_map}
use Rattle.std.specs.Int.{Width, int_wrap}

-- the only value of the type that differs from n by a multiple of 2^w (two's complement)
abbrev pub wrap : Width → ℤ → ℤ
wrap w n = int_wrap w n

-- values of a type of this width
abbrev pub AreValues : Width → List ℤ → Type 0
AreValues w values = All (λ v. FitsSigned w v) values

-- m and n differ by a multiple of 2^k
abbrev pub IsSameModulo : ℕ → ℤ → ℤ → Type 0
IsSameModulo k m n = (q : ℤ) × (m ≡ n +ℤ q *ℤ pos (2 ^ k))

-- n / 2, rounded down, as an arithmetic shift by one
abbrev pub floor_half : ℤ → ℤ
floor_half (pos n) = pos (n / 2)
floor_half (negsuc n) = negsuc (n / 2)

-- the half of a wrapped number
abbrev pub half : Width → ℤ → ℤ
half w n = floor_half (wrap w n)

abbrev pub is_odd : ℕ → Bool
is_odd n = n % 2 == 1

abbrev pub is_odd_int : ℤ → Bool
is_odd_int (pos n) = is_odd n
is_odd_int (negsuc n) = not (is_odd n)

-- a digit as a number
abbrev pub digit_value : Bool → ℕ
digit_value b = if b then 1 else 0

-- the number that negabinary digits stand for, the lowest first: the sum of d_i * (-2)^i
abbrev pub digits_sum : List Bool → ℤ
digits_sum [] = pos 0
digits_sum (d ∷ ds) = pos (digit_value d) +ℤ negsuc 1 *ℤ digits_sum ds

-- the k lowest negabinary digits of v, the lowest first: the only k digits whose sum is v modulo 2^k
-- (zfp 1.0 documentation, chapter Algorithm). Behind the lowest digit d stand those of the negated half,
-- since v = d + (-2) * (-floor(v / 2))
abbrev pub digits : ℕ → ℤ → List Bool
digits zero v = []
digits (suc k) v = is_odd_int v ∷ digits k (neg_ℤ (floor_half v))

-- the value that w digits stand for
abbrev pub value_of : Width → List Bool → ℤ
value_of w ds = wrap w (digits_sum ds)

-- the n lowest bits of v, the least significant first
abbrev pub field : ℕ → ℕ → List Bool
field zero v = []
field (suc n) v = is_odd v ∷ field n (v / 2)

-- the number that bits stand for, the least significant first
abbrev pub number : List Bool → ℕ
number [] = 0
number (b ∷ bs) = digit_value b + 2 * number bs

-- the bits of words of 64: bit i of the list is bit i mod 64 of word i / 64
abbrev pub word_bits : List ℕ → List Bool
word_bits words = flat_map (field 64) words
