-- The binomial sums of one line.
use Rattle.std.specs.Prelude.{ℕ, ℤ, List, [], ◌∷◌, map}
use Rattle.std.specs.Int.{Width}
use Rattle.zf_spec.specs.Numbers.{wrap}
use Rattle.zf_spec.specs.Grid.{upto}
use Rattle.zf_spec.specs.Lorenzo.{weighted_sum}

-- the four sums of a line, the one at index m with the weights of m, wrapped
abbrev pub line_sums : Width → (ℕ → ℕ → ℤ) → ℤ → ℤ → ℤ → ℤ → List ℤ
line_sums n axis x y z w = map (λ m. wrap n (weighted_sum (axis m) 0 (x ∷ y ∷ z ∷ w ∷ []))) (upto 4)
