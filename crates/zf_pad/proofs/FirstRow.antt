-- The blocks of the first row along x: such a block is told by its number, and no coordinates are divided out.
use Rattle.std.proofs.Common.{◌≡◌, ℕ, ◌+◌, ◌-◌, ◌*◌, ◌/◌, ◌<◌, ◌≤◌, min, List, [], ◌∷◌, length, map, replicate, get_or, refl, ap, ◌∙◌, arith}
use Rattle.std.{specs.List.{AllByRecursion}, proofs.Math.Nat.{div-eq_of_lt, mod-eq_of_lt}}
use Rattle.zf_spec.specs.Grid.{IsShape, grid, coordinates, extents, extent_of}
use Rattle.zf_base.specs.Positions.{with_unused}

zero_coordinates : (ns : List ℕ) → AllByRecursion (λ n. 1 ≤ n) ns → coordinates (grid ns) 0 ≡ replicate (length ns) 0
zero_coordinates [] h = refl
zero_coordinates (n ∷ ns) h =
    let some : 0 < (n + 3) / 4 = omega (arith, h.0) in
    cc (mod-eq_of_lt some, div-eq_of_lt some, zero_coordinates ns h.1)

first_coordinates : (n : ℕ) (ns : List ℕ) (b : ℕ) → AllByRecursion (λ n. 1 ≤ n) ns → 4 * b < n → coordinates (grid (n ∷ ns)) b ≡ b ∷ replicate (length ns) 0
first_coordinates n ns b h lt =
    let below : b < (n + 3) / 4 = omega arith in
    cc (mod-eq_of_lt below, div-eq_of_lt below, zero_coordinates ns h)

extents_zero : (ns : List ℕ) → extents ns (replicate (length ns) 0) ≡ map (λ n. min 4 n) ns
extents_zero [] = refl
extents_zero (n ∷ ns) = let all : n - 4 * 0 ≡ n = omega arith in rw (all, extents_zero ns)

module _ (b : ℕ) where
  first_origin_of : (n : ℕ) (ns : List ℕ) → AllByRecursion (λ n. 1 ≤ n) ns → 4 * b < n → map (λ c. 4 * c) (coordinates (grid (n ∷ ns)) b) ≡ 4 * b ∷ map (λ c. 4 * c) (replicate (length ns) 0)
  first_origin_of n ns h lt = ap (map (λ c. 4 * c)) (first_coordinates n ns b h lt)

  first_size_of : (n : ℕ) (ns : List ℕ) → AllByRecursion (λ n. 1 ≤ n) ns → 4 * b < n → extent_of (n ∷ ns) b ≡ min 4 (n - 4 * b) ∷ map (λ n. min 4 n) ns
  first_size_of n ns h lt = ap (extents (n ∷ ns)) (first_coordinates n ns b h lt) ∙ ap (λ es. min 4 (n - 4 * b) ∷ es) (extents_zero ns)

pub first_origin : (ns : List ℕ) (b : ℕ) → IsShape ns → 4 * b < get_or ns 0 1 → with_unused 0 (map (λ c. 4 * c) (coordinates (grid ns) b)) ≡ record { x = 4 * b; y = 0; z = 0; w = 0 }
first_origin [] b shape lt = absurd (omega (arith, shape.some_dimension))
first_origin (n ∷ []) b shape lt = ap (with_unused 0) (first_origin_of b n [] shape.not_zero.1 lt)
first_origin (n ∷ m ∷ []) b shape lt = ap (with_unused 0) (first_origin_of b n (m ∷ []) shape.not_zero.1 lt)
first_origin (n ∷ m ∷ l ∷ []) b shape lt = ap (with_unused 0) (first_origin_of b n (m ∷ l ∷ []) shape.not_zero.1 lt)
first_origin (n ∷ m ∷ l ∷ k ∷ []) b shape lt = ap (with_unused 0) (first_origin_of b n (m ∷ l ∷ k ∷ []) shape.not_zero.1 lt)
first_origin (n ∷ m ∷ l ∷ k ∷ j ∷ ns) b shape lt = absurd (omega (arith, shape.four_at_most))

pub first_size : (ns : List ℕ) (b : ℕ) → IsShape ns → 4 * b < get_or ns 0 1
    → with_unused 1 (extent_of ns b) ≡ record { x = min 4 (get_or ns 0 1 - 4 * b); y = min 4 (get_or ns 1 1); z = min 4 (get_or ns 2 1); w = min 4 (get_or ns 3 1) }
first_size [] b shape lt = absurd (omega (arith, shape.some_dimension))
first_size (n ∷ []) b shape lt = ap (with_unused 1) (first_size_of b n [] shape.not_zero.1 lt)
first_size (n ∷ m ∷ []) b shape lt = ap (with_unused 1) (first_size_of b n (m ∷ []) shape.not_zero.1 lt)
first_size (n ∷ m ∷ l ∷ []) b shape lt = ap (with_unused 1) (first_size_of b n (m ∷ l ∷ []) shape.not_zero.1 lt)
first_size (n ∷ m ∷ l ∷ k ∷ []) b shape lt = ap (with_unused 1) (first_size_of b n (m ∷ l ∷ k ∷ []) shape.not_zero.1 lt)
first_size (n ∷ m ∷ l ∷ k ∷ j ∷ ns) b shape lt = absurd (omega (arith, shape.four_at_most))
