-- The reversible transform of a block, the high-order Lorenzo transform (zfp 1.0 documentation, chapter
-- Algorithm).
use Rattle.std.specs.Prelude.{ℕ, suc, zero, ◌+◌, ◌-◌, ◌/◌, ◌%◌, ℤ, pos, ◌+ℤ◌, ◌*ℤ◌, neg_ℤ, List, [], ◌∷◌, map, if◌then◌else◌}
use Rattle.std.specs.Int.{Width}
use Rattle.zf_spec.specs.Numbers.{wrap, is_odd}
use Rattle.zf_spec.specs.Grid.{places}

-- the binomial coefficient, 0 where k is more than n
abbrev pub choose : ℕ → ℕ → ℕ
choose n zero = 1
choose zero (suc k) = 0
choose (suc n) (suc k) = choose n k + choose n (suc k)

-- along one axis, what the value at index i weighs in the coefficient at index m: C(m, i), with the sign of
-- (-1)^(m - i)
abbrev pub signed_choose : ℕ → ℕ → ℤ
signed_choose m i = if is_odd (m - i) then neg_ℤ (pos (choose m i)) else pos (choose m i)

abbrev pub plain_choose : ℕ → ℕ → ℤ
plain_choose m i = pos (choose m i)

-- over d axes, the product of what it weighs along each
abbrev pub weight : (ℕ → ℕ → ℤ) → ℕ → ℕ → ℕ → ℤ
weight axis zero m i = pos 1
weight axis (suc d) m i = axis (m % 4) (i % 4) *ℤ weight axis d (m / 4) (i / 4)

-- the sum of values, from place k on, each with its weight
abbrev pub weighted_sum : (ℕ → ℤ) → ℕ → List ℤ → ℤ
weighted_sum f k [] = pos 0
weighted_sum f k (v ∷ vs) = (f k *ℤ v) +ℤ weighted_sum f (suc k) vs

-- the coefficients of a block of d dimensions: one signed binomial sum for each place, wrapped
unfoldable pub lorenzo : Width → ℕ → List ℤ → List ℤ
lorenzo w d block = map (λ m. wrap w (weighted_sum (weight signed_choose d m) 0 block)) (places d)

-- the way back: the same sums without the signs
unfoldable pub unlorenzo : Width → ℕ → List ℤ → List ℤ
unlorenzo w d block = map (λ m. wrap w (weighted_sum (weight plain_choose d m) 0 block)) (places d)
