-- The block, the place and the extent that a shape tells by four axes, against the lists of its used ones.
use Rattle.std.proofs.Common.{◌≡◌, ℕ, zero, suc, ◌+◌, ◌-◌, ◌/◌, ◌%◌, ◌<◌, ◌≤◌, true, nat_lt, List, [], ◌∷◌, ◌++◌, length, map, replicate, refl, ap, sym, ◌∙◌, arith, length-take, rules}
use Rattle.std.{specs.List.{AllByRecursion}, proofs.lemmas.List.{length-map}}
use Rattle.std.proofs.lemmas.Bool.{and_parts, ltb-true}
use Rattle.zf_spec.specs.Grid.{IsShape, grid, blocks, raster, coordinates, is_inside, fours, extents, extent_of}
use Rattle.zf_spec.proofs.Raster.{length-coordinates, length-fours, length-extents}
use Rattle.zf_base.{specs.declared.position.Pos.{Pos}, specs.Places.{block_number, place_of, IsAt}}
use Rattle.zf_base.specs.Positions.{axes, used_axes, with_unused, IsPosition, IsExtent}
use Rattle.zf_base.proofs.Boxes.{is_inside-append_ones, raster-append_zeros, coordinates-append_ones, extents-append_ones, is_inside-coordinates}
use Rattle.zf_base.{proofs.Sizes.{axes-with_unused}, proofs.Places.{is_inside-grid, IsAt-position}}

-- ---- the used coordinates of a position, and zeros

pub length-used_axes : (d : ℕ) (p : Pos) → d ≤ 4 → length (used_axes d p) ≡ d
length-used_axes d p four = omega (arith, length-take d (axes p))

pub map-zeros : (f : ℕ → ℕ) (ps : List ℕ) (k : ℕ) → f 0 ≡ 0 → map f (ps ++ replicate k 0) ≡ map f ps ++ replicate k 0
map-zeros f [] zero e = refl
map-zeros f [] (suc k) e = rw (e, map-zeros f [] k e)
map-zeros f (p ∷ ps) k e = rw (map-zeros f ps k e)

pub position_axes : (ns : List ℕ) (p : Pos) → length ns ≤ 4 → IsPosition ns p → axes p ≡ used_axes (length ns) p ++ replicate (4 - length ns) 0
position_axes ns p four h = search (rules, length-used_axes, axes-with_unused)

grid_axes : (ns : List ℕ) (g : Pos) → length ns ≤ 4 → g ≡ with_unused 1 (grid ns) → axes g ≡ grid ns ++ replicate (4 - length ns) 1
grid_axes ns g four e = search (rules, length-map, axes-with_unused)

-- ---- the block and the place of a position

module _ (ns : List ℕ) (p q g : Pos) (shape : IsShape ns) (h : IsPosition ns p) (e : g ≡ with_unused 1 (grid ns)) (is : axes q ≡ map (λ c. c / 4) (axes p)) where
  block_axes : axes q ≡ map (λ c. c / 4) (used_axes (length ns) p) ++ replicate (4 - length ns) 0
  block_axes =
      is ∙ ap (map (λ c. c / 4)) (position_axes ns p shape.four_at_most h) ∙ map-zeros (λ c. c / 4) (used_axes (length ns) p) (4 - length ns) refl

  block_length : length (map (λ c. c / 4) (used_axes (length ns) p)) ≡ length (grid ns)
  block_length =
      length-map (used_axes (length ns) p) (λ c. c / 4) ∙ length-used_axes (length ns) p shape.four_at_most ∙ sym (length-map ns (λ n. (n + 3) / 4))

  pub block_is_inside : is_inside (axes g) (axes q) ≡ true
  block_is_inside =
      ap (λ s. is_inside s (axes q)) (grid_axes ns g shape.four_at_most e) ∙ ap (is_inside (grid ns ++ replicate (4 - length ns) 1)) block_axes ∙ is_inside-append_ones (grid ns) (map (λ c. c / 4) (used_axes (length ns) p)) (4 - length ns) block_length (is_inside-grid ns (used_axes (length ns) p) h.inside)

  pub block_number_axes : raster (axes g) (axes q) ≡ block_number ns (used_axes (length ns) p)
  block_number_axes =
      ap (λ s. raster s (axes q)) (grid_axes ns g shape.four_at_most e) ∙ ap (raster (grid ns ++ replicate (4 - length ns) 1)) block_axes ∙ raster-append_zeros (grid ns) (replicate (4 - length ns) 1) (map (λ c. c / 4) (used_axes (length ns) p)) (4 - length ns) block_length

fours_four : (d : ℕ) → d ≤ 4 → fours 4 ≡ fours d ++ fours (4 - d)
fours_four (suc (suc (suc (suc (suc d))))) h = absurd (omega arith)
fours_four _ h = refl

pub place_axes : (ns : List ℕ) (p q : Pos) → length ns ≤ 4 → IsPosition ns p → axes q ≡ map (λ c. c % 4) (axes p) → raster (fours 4) (axes q) ≡ place_of (used_axes (length ns) p)
place_axes ns p q four h is =
    let ps = used_axes (length ns) p in
    let same = length-used_axes (length ns) p four in
    let indices = is ∙ ap (map (λ c. c % 4)) (position_axes ns p four h) ∙ map-zeros (λ c. c % 4) ps (4 - length ns) refl in
    let as_long = length-map ps (λ c. c % 4) ∙ sym (length-fours (length ps)) in
    let at = fours_four (length ns) four ∙ ap (λ d. fours d ++ fours (4 - length ns)) (sym same) in
    ap (raster (fours 4)) indices ∙ ap (λ s. raster s (map (λ c. c % 4) ps ++ replicate (4 - length ns) 0)) at ∙ raster-append_zeros (fours (length ps)) (fours (4 - length ns)) (map (λ c. c % 4) ps) (4 - length ns) as_long

pub IsAt-numbers : (ns : List ℕ) (p : Pos) (b k : ℕ) → length ns ≤ 4 → IsPosition ns p → b ≡ block_number ns (used_axes (length ns) p) → k ≡ place_of (used_axes (length ns) p) → IsAt ns (used_axes (length ns) p) b k
IsAt-numbers ns p b k four h is_block is_place =
    rw (is_block, is_place) (IsAt-position ns (used_axes (length ns) p) (length-used_axes (length ns) p four) h.inside)

-- ---- the extent of a block

pub same_from_axes : (p q : Pos) → axes p ≡ axes q → p ≡ q
same_from_axes p q e = ap (with_unused 0) e

pub used_axes-with_unused : (n : ℕ) (ns : List ℕ) → length ns ≤ 4 → used_axes (length ns) (with_unused n ns) ≡ ns
used_axes-with_unused n (a ∷ b ∷ c ∷ d ∷ e ∷ ns) h = absurd (omega arith)
used_axes-with_unused n _ h = refl

-- a list of coordinates inside an array, as a position of it
pub IsPosition-with_unused : (ns ps : List ℕ) → length ns ≤ 4 → length ps ≡ length ns → is_inside ns ps ≡ true → IsPosition ns (with_unused 0 ps)
IsPosition-with_unused ns ps four same h = search (rules, used_axes-with_unused)

extents_not_zero : (ns cs : List ℕ) → is_inside (grid ns) cs ≡ true → AllByRecursion (λ n. 1 ≤ n) (extents ns cs)
extents_not_zero (n ∷ ns) (c ∷ cs) h =
    let parts = and_parts (nat_lt c ((n + 3) / 4)) (is_inside (grid ns) cs) h in
    let lt = ltb-true c ((n + 3) / 4) parts.0 in
    (omega (arith, lt), extents_not_zero ns cs parts.1)
extents_not_zero _ cs h = tt

extents_four_at_most : (ns cs : List ℕ) → AllByRecursion (λ n. n ≤ 4) (extents ns cs)
extents_four_at_most (n ∷ ns) (c ∷ cs) = (omega arith, extents_four_at_most ns cs)
extents_four_at_most _ cs = tt

-- a block has an extent along each axis
pub length-extent_of : (ns : List ℕ) (b : ℕ) → length (extent_of ns b) ≡ length ns
length-extent_of ns b = length-extents ns (coordinates (grid ns) b) (length-coordinates (grid ns) b ∙ length-map ns (λ n. (n + 3) / 4))

-- from 1 to 4
pub extent_of_bounds : (ns : List ℕ) (b : ℕ) → b < blocks ns → AllByRecursion (λ n. (1 ≤ n) × (n ≤ 4)) (extent_of ns b)
extent_of_bounds ns b below = both (extents ns cs) (extents_not_zero ns cs (is_inside-coordinates (grid ns) b below)) (extents_four_at_most ns cs)
  where
    cs : List ℕ
    cs = coordinates (grid ns) b

    both : (es : List ℕ) → AllByRecursion (λ n. 1 ≤ n) es → AllByRecursion (λ n. n ≤ 4) es → AllByRecursion (λ n. (1 ≤ n) × (n ≤ 4)) es
    both [] some few = tt
    both (e ∷ es) some few = ((some.0, few.0), both es some.1 few.1)

-- the sizes of the part of a block that exists
module _ (ns : List ℕ) (b : ℕ) (size : Pos) (shape : IsShape ns) (is : size ≡ with_unused 1 (extent_of ns b)) where
  pub used_size : used_axes (length ns) size ≡ extent_of ns b
  used_size = search (rules, length-extent_of, used_axes-with_unused)

  pub IsExtent-of_block : (origin : Pos) → b < blocks ns → IsExtent (length ns) (record { origin = origin; size = size })
  IsExtent-of_block origin lt = search (rules, used_size, extents_not_zero, is_inside-coordinates, extents_four_at_most)

-- the extent's sizes from those of the shape and the coordinates of the block
pub extent_axes : (ns : List ℕ) (b : ℕ) (s g c e : Pos) → IsShape ns → s ≡ with_unused 1 ns → g ≡ with_unused 1 (grid ns) → axes c ≡ coordinates (axes g) b → axes e ≡ extents (axes s) (axes c) → e ≡ with_unused 1 (extent_of ns b)
extent_axes ns b s g c e shape is_sizes is_grid is_block is_extent =
    let k = 4 - length ns in
    let cs = coordinates (grid ns) b in
    let same = length-coordinates (grid ns) b ∙ length-map ns (λ n. (n + 3) / 4) in
    let block : axes c ≡ cs ++ replicate k 0 = is_block ∙ ap (λ g. coordinates g b) (grid_axes ns g shape.four_at_most is_grid) ∙ coordinates-append_ones (grid ns) k b in
    let sizes : axes s ≡ ns ++ replicate k 1 = ap axes is_sizes ∙ axes-with_unused 1 ns shape.four_at_most in
    let all : axes e ≡ extents ns cs ++ replicate k 1 = is_extent ∙ ap (λ s. extents s (axes c)) sizes ∙ ap (extents (ns ++ replicate k 1)) block ∙ extents-append_ones ns cs k same in
    let long = length-extents ns cs same in
    let four = axes-with_unused 1 (extent_of ns b) (omega (arith, long, shape.four_at_most)) in
    same_from_axes e (with_unused 1 (extent_of ns b)) (all ∙ ap (λ d. extents ns cs ++ replicate (4 - d) 1) (sym long) ∙ sym four)
