-- Digits of four coefficients in words, and in four lanes of one word.
use Rattle.std.specs.Prelude.{ℕ, suc, zero, ◌≡◌, ◌+◌, ◌-◌, ◌*◌, ◌/◌, ◌%◌, ◌^◌, ◌<◌, ◌≤◌, max, Bool, false, List, [], ◌∷◌, ◌++◌, length, map, replicate}
use Rattle.std.specs.Int.{bit_at}
use Rattle.zf_spec.specs.Numbers.{is_odd, field}
use Rattle.zf_spec.specs.Planes.{code_from, reach_of_all}
use Rattle.zf_planes.specs.Decoding.{planes_ahead, planes_bits, IsSpent}

-- the planes of the c lowest digits of each word, the greatest first
unfoldable pub low_planes : ℕ → List ℕ → List (List Bool)
low_planes zero words = []
low_planes (suc c) words = map (λ u. is_odd (u / 2 ^ c)) words ∷ low_planes c words

-- k lanes of 16 bits, the lowest first
unfoldable pub lanes_in : ℕ → ℕ → List ℕ
lanes_in zero v = []
lanes_in (suc k) v = v % 65536 ∷ lanes_in k (v / 65536)

-- four lanes of four bits, made lanes of 16
abbrev pub lanes_apart : ℕ → ℕ
lanes_apart v = v % 16 + v / 16 % 16 * 65536 + v / 256 % 16 * 4294967296 + v / 4096 % 16 * 281474976710656

-- what an entry of a table of lanes has: digits in lanes of four bits, the length of their code, how many
-- planes they are, and how far their ones and those above reach
abbrev pub entry_digits : ℕ → ℕ
entry_digits e = e % 2 ^ 16

abbrev pub entry_len : ℕ → ℕ
entry_len e = e / 2 ^ 16 % 2 ^ 4

abbrev pub entry_count : ℕ → ℕ
entry_count e = e / 2 ^ 20 % 2 ^ 3

abbrev pub entry_reach : ℕ → ℕ
entry_reach e = e / 2 ^ 23

-- each word has no digit from the c-th on
unfoldable pub AreBelow : ℕ → List ℕ → Type 0
AreBelow c [] = Unit {0}
AreBelow c (u ∷ words) = (u < 2 ^ c) × AreBelow c words

-- words with c more digits below
unfoldable pub joined : ℕ → List ℕ → List ℕ → List ℕ
joined c [] more = []
joined c (u ∷ words) [] = []
joined c (u ∷ words) (v ∷ more) = (u * 2 ^ c + v) ∷ joined c words more

-- the first planes have their digits in words, a word for each coefficient, and those behind them in the
-- lanes of one
pub record IsGathered (words : List ℕ) (done lanes held : ℕ) : Type 0 where
  pub four : length words ≡ 4
  pub prefix : AreBelow done words
  pub back : AreBelow held (lanes_in 4 lanes)

unfoldable pub gathered : List ℕ → ℕ → ℕ → ℕ → List (List Bool)
gathered words done lanes held = low_planes done words ++ low_planes held (lanes_in 4 lanes)

-- ---- planes that bits stand for: c of them in the lanes v, by l bits; their ones and those above reach to a

-- the planes whose code the eight bits of b begin with, behind ranks below n that have had a one above: one
-- at least, and four at most
pub record AreInSight (n b c v l a : ℕ) : Type 0 where
  pub code : code_from n (low_planes c (lanes_in 4 v)) ≡ field l b
  pub below : AreBelow c (lanes_in 4 v)
  pub some : 0 < c
  pub most : c ≤ 4
  pub bit : 0 < l
  pub len : l ≤ 8
  pub above : a ≡ max n (reach_of_all (low_planes c (lanes_in 4 v)))
  pub within : a ≤ 4

-- the planes that the last r bits of a budget stand for, or the first of them
pub record AreAtEnd (n r b c v l a : ℕ) : Type 0 where
  pub digits : planes_ahead r c 4 n (field r b) ≡ low_planes c (lanes_in 4 v)
  pub bits : planes_bits r c 4 n (field r b) ≡ l
  pub below : AreBelow c (lanes_in 4 v)
  pub some : 0 < c
  pub most : c ≤ 4
  pub bit : 0 < l
  pub len : l ≤ r
  pub above : a ≡ max n (reach_of_all (low_planes c (lanes_in 4 v)))
  pub within : a ≤ 4

-- of the first twelve of b's digits that stand two bits apart, the first one is the greatest of v
pub record AreTurned (b v : ℕ) : Type 0 where
  pub digit : (j : ℕ) → j < 12 → bit_at v (11 - j) ≡ bit_at b (2 * j)
  pub small : v < 4096

-- planes in which the first rank alone has ones, of at most p, and of at most twelve; b has k bits
pub record AreLoneInSight (p b k c v l a : ℕ) : Type 0 where
  pub code : code_from 0 (low_planes c (lanes_in 4 v)) ≡ field l b
  pub reached : max 0 (reach_of_all (low_planes c (lanes_in 4 v))) ≡ 1
  pub below : AreBelow c (lanes_in 4 v)
  pub few : c ≤ 12
  pub fits : c ≤ p
  pub some : 0 < l
  pub len : l ≤ k
  pub above : a ≡ 1

-- the code of the top p planes, which these bits begin with, was read: the first planes are gathered, the
-- others are zero, and so much of the budget is left
pub record ReadsGathered (budget p : ℕ) (s : List Bool) (after : ℕ) (words : List ℕ) (done v h : ℕ) : Type 0
  where
    pub bits : IsSpent budget after (planes_bits budget p 4 0 s) s
    pub gathering : IsGathered words done v h
    pub within : done + h ≤ p
    pub held : h ≤ 12
    pub digits : planes_ahead budget p 4 0 s ≡ gathered words done v h
        ++ replicate (p - (done + h)) (replicate 4 false)
