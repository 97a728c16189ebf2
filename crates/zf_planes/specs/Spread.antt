-- Digits of words from the top: the greatest first.
use Rattle.std.specs.Prelude.{ℕ, suc, zero, ◌≡◌, ◌<◌, ◌≤◌, ◌+◌, ◌-◌, ◌*◌, ◌/◌, ◌%◌, ◌^◌, Bool, true, false, List, [], ◌∷◌, map, slice_index_or}
use Rattle.zf_spec.specs.Numbers.{is_odd, digit_value}
use Rattle.zf_spec.specs.Grid.{upto}

-- digit i of a word of 64, counted from the top
abbrev pub top_digit : ℕ → ℕ → Bool
top_digit word i = is_odd (word / 2 ^ (63 - i))

-- the top k planes of words
unfoldable pub top_planes : ℕ → List ℕ → List (List Bool)
top_planes k words = map (λ i. map (λ word. top_digit word i) words) (upto k)

-- the number that has k digits, the first one lowest, and each b times as high as the one before: they are
-- two bits apart where b is 4, and four where it is 16
unfoldable pub spread : ℕ → ℕ → (ℕ → Bool) → ℕ
spread b zero digits = 0
spread b (suc k) digits = digit_value (digits 0) + b * spread b k (λ i. digits (suc i))

-- of k digits that stand two bits apart, the lowest of which comes first, the number in which the first one is
-- the greatest
unfoldable pub turned : ℕ → ℕ → ℕ
turned zero n = 0
turned (suc k) n = n % 2 * 2 ^ k + turned k (n / 4)

-- planes of four digits in which the first rank alone has ones
abbrev pub lone_planes : List Bool → List (List Bool)
lone_planes ds = map (λ d. d ∷ false ∷ false ∷ false ∷ []) ds

-- their code behind that of the first one: each has its digit, and a group bit of zero
abbrev pub lone_code : List Bool → List Bool
lone_code [] = []
lone_code (d ∷ ds) = d ∷ false ∷ lone_code ds

-- in the top c of p planes, at most sixteen, the first rank alone has ones, and it has one in the first of
-- them
pub record AreLoneAtTop (p : ℕ) (words : List ℕ) (c : ℕ) : Type 0 where
  pub most : c ≤ p
  pub few : c ≤ 16
  pub first : 0 < c → top_digit (slice_index_or words 0 0) 0 ≡ true
  pub lone : top_planes c words ≡ lone_planes (map (top_digit (slice_index_or words 0 0)) (upto c))
