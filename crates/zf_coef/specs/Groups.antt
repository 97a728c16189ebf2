-- The digits of up to 64 coefficients, each a word, and the words of planes that have one digit of each.
use Rattle.std.specs.Prelude.{ℕ, ◌+◌, ◌-◌, ◌%◌, ◌≡◌, ◌≢◌, ◌<◌, ◌≤◌, ◌⊎◌, List, [], length, slice_index_or}
use Rattle.std.specs.Int.{bit_at}
use Rattle.zf_coef.specs.Turned.{bit_of, folded_bit}

-- the word of this number of plane k
abbrev pub word_of : List (List ℕ) → ℕ → ℕ → ℕ
word_of planes number k = slice_index_or (slice_index_or planes k []) number 0

-- bit r of that word of plane k is digit k of coefficient r
unfoldable pub HoldsGroup : ℕ → List ℕ → List (List ℕ) → Type 0
HoldsGroup number digits planes =
    (k r : ℕ) → k < length planes → r < 64 → bit_at (word_of planes number k) r ≡ bit_of digits r k

-- that holds of so many planes from `from` on
unfoldable pub HoldsSome : ℕ → ℕ → ℕ → List ℕ → List (List ℕ) → Type 0
HoldsSome count number from digits planes = (k r : ℕ) → from ≤ k → k < from + count → k < length planes → r < 64
    → bit_at (word_of planes number k) r ≡ bit_of digits r k

-- digit k of coefficient r is bit r of that word of plane k, or zero where there is no such plane
unfoldable pub IsOfGroup : ℕ → List (List ℕ) → List ℕ → Type 0
IsOfGroup number planes digits =
    (r k : ℕ) → r < length digits → k < 64 → bit_of digits r k ≡ bit_at (word_of planes number k) r

-- planes have the same words but for those of this number
unfoldable pub KeepsOthers : ℕ → List (List ℕ) → List (List ℕ) → Type 0
KeepsOthers number old new = (k p : ℕ) → p ≢ number → word_of new p k ≡ word_of old p k

-- at most 64 planes have a word of this number, where each has so many
abbrev pub HasWord : {P : Type 0} → ℕ → ℕ → List P → Type 0
HasWord number count planes = (number < count) × (length planes ≤ 64)

-- just n planes have one
abbrev pub HasWordOfAll : {P : Type 0} → ℕ → ℕ → ℕ → List P → Type 0
HasWordOfAll number count n planes = (number < count) × (length planes ≡ n)

-- n planes or more have one
abbrev pub HasWordBelow : {P : Type 0} → ℕ → ℕ → ℕ → List P → Type 0
HasWordBelow number count n planes = (number < count) × (n ≤ length planes)

-- each plane has a word of this number, where it has so many; the 32 planes from `from` on are a half of 64,
-- and begin among the planes or at their end
abbrev pub IsHalfAt : {P : Type 0} → ℕ → ℕ → ℕ → List P → Type 0
IsHalfAt number count from planes = (number < count) × ((from ≤ length planes) × (from ≤ 32))

-- so many digits are a group that is turned whole
abbrev pub IsGroup : ℕ → List ℕ → Type 0
IsGroup size digits = ((size ≡ 16) ⊎ (size ≡ 64)) × (length digits ≡ size)

-- ---- the way there

-- the words of this number of all planes are those of the digits, and the others stay
pub record PutsGroup (number : ℕ) (digits : List ℕ) (old new : List (List ℕ)) : Type 0 where
  pub bits : HoldsGroup number digits new
  pub others : KeepsOthers number old new

-- those of the 32 planes from `from` on are; the planes below and the words of other numbers stay
pub record PutsHalf (number from : ℕ) (digits : List ℕ) (old new : List (List ℕ)) : Type 0 where
  pub bits : HoldsSome 32 number from digits new
  pub below : (k : ℕ) → k < from → word_of new number k ≡ word_of old number k
  pub others : KeepsOthers number old new

-- those of all planes from `from` on are zero; the planes below and the words of other numbers stay
pub record PutsNone (number from : ℕ) (old new : List (List ℕ)) : Type 0 where
  pub zeros : (k : ℕ) → from ≤ k → k < length new → word_of new number k ≡ 0
  pub below : (k : ℕ) → k < from → word_of new number k ≡ word_of old number k
  pub others : KeepsOthers number old new

-- so many planes from `from` on, as far as there are any, have words as those of this number; the planes
-- before and behind them keep theirs
pub record HoldsFrom (count number from : ℕ) (words : List ℕ) (old new : List (List ℕ)) : Type 0 where
  pub inside : (j : ℕ) → j < count → from + j < length new → word_of new number (from + j)
      ≡ slice_index_or words j 0
  pub below : (k : ℕ) → k < from → word_of new number k ≡ word_of old number k
  pub above : (k : ℕ) → from + count ≤ k → word_of new number k ≡ word_of old number k

-- bit r of plane `from + k`, for k below `to`, is place k - k mod 16 + r of the folded row k mod 16; there is
-- no bit from 16 on
pub record HoldsFolded (number from to : ℕ) (words : List ℕ) (planes : List (List ℕ)) : Type 0 where
  pub inside : (k r : ℕ) → k < to → from + k < length planes → r < 16
      → bit_at (word_of planes number (from + k)) r ≡ folded_bit words (k % 16) (k - k % 16 + r)
  pub outside : (k r : ℕ) → k < to → from + k < length planes → 16 ≤ r
      → bit_at (word_of planes number (from + k)) r ≡ 0

-- ---- the way back

-- turned words of the 32 planes from `from` on: each has the digits of a rank below n, and then those of the
-- rank n above it
unfoldable pub AreHalf : ℕ → ℕ → ℕ → List (List ℕ) → List ℕ → Type 0
AreHalf n number from planes words = (j i : ℕ) → j < n → i < 32
    → (bit_of words j i ≡ bit_at (word_of planes number (from + i)) j)
    × (bit_of words j (32 + i) ≡ bit_at (word_of planes number (from + i)) (n + j))

-- so many ranks, and those n above them, have the digits of both lists of such words
pub record AreUnfolded (n count : ℕ) (low high digits : List ℕ) : Type 0 where
  pub lower : (r k : ℕ) → r < count → k < 32
      → (bit_of digits r k ≡ bit_of low r k) × (bit_of digits r (32 + k) ≡ bit_of high r k)
  pub upper : (r k : ℕ) → r < count → k < 32 → (bit_of digits (n + r) k ≡ bit_of low r (32 + k))
      × (bit_of digits (n + r) (32 + k) ≡ bit_of high r (32 + k))

-- place k - k mod 16 + r of the folded row k mod 16 is bit r of plane `from + k`
unfoldable pub IsFoldOf : ℕ → ℕ → List (List ℕ) → List ℕ → Type 0
IsFoldOf number from planes words = (k r : ℕ) → k < 32 → r < 16 → folded_bit words (k % 16) (k - k % 16 + r)
    ≡ bit_at (word_of planes number (from + k)) r

-- a word with 32 bits of another, those from bit `start` on, behind `from` zeros
pub record IsMoved (start from old new : ℕ) : Type 0 where
  pub inside : (i : ℕ) → i < 32 → bit_at new (from + i) ≡ bit_at old (start + i)
  pub below : (i : ℕ) → i < from → bit_at new i ≡ 0
  pub above : (i : ℕ) → from + 32 ≤ i → i < 64 → bit_at new i ≡ 0

-- so many ranks, and those n above them, have the digits of such words behind `from` zeros
pub record AreMoved (n count from : ℕ) (words digits : List ℕ) : Type 0 where
  pub lower : (r : ℕ) → r < count → IsMoved 0 from (slice_index_or words r 0) (slice_index_or digits r 0)
  pub upper : (r : ℕ) → r < count
      → IsMoved 32 from (slice_index_or words r 0) (slice_index_or digits (n + r) 0)
