-- Tiles of bits that are turned over their diagonal. A bit has the number of its word and its place in it.
use Rattle.std.specs.Prelude.{ℕ, ◌+◌, ◌-◌, ◌*◌, ◌/◌, ◌%◌, ◌^◌, ◌≡◌, ◌≢◌, ◌<◌, ◌⊎◌, List, length}
use Rattle.std.specs.Prelude.{slice_index_or}
use Rattle.std.specs.Int.{bit_at}
use Rattle.std.specs.Int.RustNames.{bit_xor}
use lib.Bits.{bit_and}

-- bit i of word j
abbrev pub bit_of : List ℕ → ℕ → ℕ → ℕ
bit_of words j i = bit_at (slice_index_or words j 0) i

-- ---- a swap

-- the bits that differ between word a from s on and word b, where the mask m has a one
abbrev pub moved : ℕ → ℕ → ℕ → ℕ → ℕ
moved s m a b = bit_and (bit_xor (a / 2 ^ s) b) m

abbrev pub swapped_low : ℕ → ℕ → ℕ → ℕ → ℕ
swapped_low s m a b = bit_xor a (moved s m a b * 2 ^ s % 2 ^ 64)

abbrev pub swapped_high : ℕ → ℕ → ℕ → ℕ → ℕ
swapped_high s m a b = bit_xor b (moved s m a b)

-- of so many words from low on and from high on, the bits are swapped; all other words stay
pub record IsSwapped (lanes low high s m : ℕ) (old new : List ℕ) : Type 0 where
  pub long : length new ≡ length old
  pub lower : (l : ℕ) → l < lanes → slice_index_or new (low + l) 0
      ≡ swapped_low s m (slice_index_or old (low + l) 0) (slice_index_or old (high + l) 0)
  pub upper : (l : ℕ) → l < lanes → slice_index_or new (high + l) 0
      ≡ swapped_high s m (slice_index_or old (low + l) 0) (slice_index_or old (high + l) 0)
  pub other : (j : ℕ) → ((l : ℕ) → l < lanes → j ≢ low + l) → ((l : ℕ) → l < lanes → j ≢ high + l)
      → slice_index_or new j 0 ≡ slice_index_or old j 0

-- word `at` is swapped so with the one behind it, by one place, and then the two words behind these with one
-- another
pub record AreSwapped (at m : ℕ) (old new : List ℕ) : Type 0 where
  pub between : List ℕ
  pub first : IsSwapped 1 at (at + 1) 1 m old between
  pub second : IsSwapped 1 (at + 2) (at + 2 + 1) 1 m between new

-- ---- a step

-- how far the words of a step in lanes stand apart
abbrev pub IsStep : ℕ → Type 0
IsStep s = (s ≡ 2) ⊎ ((s ≡ 4) ⊎ ((s ≡ 8) ⊎ (s ≡ 16)))

-- the mask has a one where the digit of the place at s is zero
abbrev pub IsMask : ℕ → ℕ → Type 0
IsMask s mask = (i : ℕ) → i < 64 → bit_at mask i ≡ 1 - i / s % 2

-- the number a with the digit of b at s
abbrev pub with_digit : ℕ → ℕ → ℕ → ℕ
with_digit s a b = a - a / s % 2 * s + b / s % 2 * s

-- each bit comes from where word and place have the other's digit at s
unfoldable pub IsStepped : ℕ → List ℕ → List ℕ → Type 0
IsStepped s old new =
    (j i : ℕ) → j < length old → i < 64 → bit_of new j i ≡ bit_of old (with_digit s j i) (with_digit s i j)

-- ---- all steps

-- the n words have tiles of n places side by side: bit i of a tile's word j comes from its word i, place j
unfoldable pub IsTurned : ℕ → List ℕ → List ℕ → Type 0
IsTurned n old new = (j i : ℕ) → j < n → i < 64 → bit_of new j i ≡ bit_of old (i % n) (i - i % n + j)

-- ---- sixteen rows in eight words

-- bit k of row r, below 32: a word has row r, and then the row that is 8 above it
abbrev pub folded_bit : List ℕ → ℕ → ℕ → ℕ
folded_bit words r k = bit_of words (r % 8) (r / 8 * 32 + k)

-- the place i with its digits at 8 and at 32 changed
abbrev pub crossed : ℕ → ℕ
crossed i = i - i / 8 % 2 * 8 - i / 32 % 2 * 32 + i / 32 % 2 * 8 + i / 8 % 2 * 32

-- the rows have tiles of sixteen places side by side: place k of a tile's row r comes from its row k, place r
unfoldable pub IsFoldedTurned : List ℕ → List ℕ → Type 0
IsFoldedTurned old new =
    (r k : ℕ) → r < 16 → k < 32 → folded_bit new r k ≡ folded_bit old (k % 16) (k - k % 16 + r)
