-- The order in which the coefficients of a block are coded (zfp 1.0 documentation, chapter Algorithm; which
-- of two coefficients with equal sums comes first in three and four dimensions is this project's own choice).
use Rattle.std.specs.Prelude.{ℕ, ◌≡◌, ◌-◌, ◌*◌, Bool, true, false, ◌&&◌, ◌||◌, ◌==◌, nat_lt, ℤ, pos, List, [], ◌∷◌, map, slice_index_or, if◌then◌else◌}
use Rattle.std.specs.List.{sum, sum_by, position_or_len}
use Rattle.zf_spec.specs.Grid.{indices, places}

-- the key of a place: the sum of its indices, the sum of their squares, and then the indices, x first, the
-- greater first
abbrev pub key : ℕ → ℕ → List ℕ
key d p = let is = indices d p in sum is ∷ sum_by (λ i. i * i) is ∷ map (λ i. 3 - i) is

-- one key comes before another: at the first number where they differ it has the smaller one
abbrev pub comes_before : List ℕ → List ℕ → Bool
comes_before [] bs = false
comes_before (a ∷ as') [] = false
comes_before (a ∷ as') (b ∷ bs) = nat_lt a b || (a == b && comes_before as' bs)

-- p put in order among places that are in order
abbrev pub put_in_order : ℕ → ℕ → List ℕ → List ℕ
put_in_order d p [] = p ∷ []
put_in_order d p (q ∷ qs) = if comes_before (key d p) (key d q) then p ∷ q ∷ qs else q ∷ put_in_order d p qs

abbrev pub in_order : ℕ → List ℕ → List ℕ
in_order d [] = []
in_order d (p ∷ ps) = put_in_order d p (in_order d ps)

-- the place of each rank: the only arrangement of the places in which the key rises
abbrev pub order : ℕ → List ℕ
order d = in_order d (places d)

-- the keys of places rise from each to the next
abbrev pub Rises : ℕ → List ℕ → Type 0
Rises d [] = Unit {0}
Rises d (p ∷ []) = Unit {0}
Rises d (p ∷ q ∷ qs) = (comes_before (key d p) (key d q) ≡ true) × Rises d (q ∷ qs)

-- the coefficients of a block by rank
abbrev pub by_rank : ℕ → List ℤ → List ℤ
by_rank d block = map (λ p. slice_index_or block p (pos 0)) (order d)

-- the way back: the value at each place is that of its rank
abbrev pub by_place : ℕ → List ℤ → List ℤ
by_place d values = map (λ p. slice_index_or values (position_or_len (λ q. q == p) (order d)) (pos 0))
    (places d)
