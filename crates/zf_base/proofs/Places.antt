-- A position is in exactly one block and place: over lists of sizes, of any dimension.
use Rattle.std.proofs.Common.{◌≡◌, ℕ, suc, ◌+◌, ◌-◌, ◌*◌, ◌/◌, ◌%◌, min, true, nat_lt, List, [], ◌∷◌, length, map, refl, ap, sym, subst, ◌∙◌, arith, rules}
use Rattle.std.proofs.lemmas.List.{length-map}
use Rattle.std.proofs.lemmas.Bool.{and_parts, and_from, ltb-true, lt-ltb, false≢true}
use Rattle.zf_spec.specs.Grid.{grid, coordinates, is_inside, fours, indices, extents, position_in}
use Rattle.zf_spec.proofs.Raster.{raster-coordinates, coordinates-raster, length-coordinates, product-fours, length-fours}
use Rattle.zf_base.{specs.Places.{block_number, place_of, IsAt}, proofs.Boxes.{raster-lt}}

-- ---- from a position to its block and its indices there

pub is_inside-grid : (ns ps : List ℕ) → is_inside ns ps ≡ true → is_inside (grid ns) (map (λ p. p / 4) ps) ≡ true
is_inside-grid (n ∷ ns) (p ∷ ps) h =
    let parts = and_parts (nat_lt p n) (is_inside ns ps) h in
    let lt = ltb-true p n parts.0 in
    and_from (nat_lt (p / 4) ((n + 3) / 4)) (is_inside (grid ns) (map (λ p. p / 4) ps)) (lt-ltb (p / 4) ((n + 3) / 4) (omega (arith, lt))) (is_inside-grid ns ps parts.1)
is_inside-grid _ ps h = search rules

pub is_inside-fours : (ps : List ℕ) → is_inside (fours (length ps)) (map (λ p. p % 4) ps) ≡ true
is_inside-fours [] = refl
is_inside-fours (p ∷ ps) =
    and_from (nat_lt (p % 4) 4) (is_inside (fours (length ps)) (map (λ p. p % 4) ps)) (lt-ltb (p % 4) 4 (omega arith)) (is_inside-fours ps)

is_inside-extents : (ns ps : List ℕ) → is_inside ns ps ≡ true → is_inside (extents ns (map (λ p. p / 4) ps)) (map (λ p. p % 4) ps) ≡ true
is_inside-extents (n ∷ ns) (p ∷ ps) h =
    let parts = and_parts (nat_lt p n) (is_inside ns ps) h in
    let lt = ltb-true p n parts.0 in
    and_from (nat_lt (p % 4) (min 4 (n - 4 * (p / 4)))) (is_inside (extents ns (map (λ p. p / 4) ps)) (map (λ p. p % 4) ps)) (lt-ltb (p % 4) (min 4 (n - 4 * (p / 4))) (omega (arith, lt))) (is_inside-extents ns ps parts.1)
is_inside-extents _ ps h = search rules

position_in-parts : (ps : List ℕ) → position_in (map (λ p. p / 4) ps) (map (λ p. p % 4) ps) ≡ ps
position_in-parts [] = refl
position_in-parts (p ∷ ps) = let e : 4 * (p / 4) + p % 4 ≡ p = omega arith in rw (e, position_in-parts ps)

-- ---- from indices in a block to the position

is_inside-position_in : (ns cs is : List ℕ) → length cs ≡ length ns → is_inside (extents ns cs) is ≡ true → is_inside ns (position_in cs is) ≡ true
is_inside-position_in (n ∷ ns) (c ∷ cs) (i ∷ is) e h =
    let parts = and_parts (nat_lt i (min 4 (n - 4 * c))) (is_inside (extents ns cs) is) h in
    let lt = ltb-true i (min 4 (n - 4 * c)) parts.0 in
    and_from (nat_lt (4 * c + i) n) (is_inside ns (position_in cs is)) (lt-ltb (4 * c + i) n (omega (arith, lt))) (is_inside-position_in ns cs is (omega arith) parts.1)
is_inside-position_in _ cs is e h = search rules

blocks_of_position_in : (ns cs is : List ℕ) → length cs ≡ length ns → length is ≡ length ns → is_inside (extents ns cs) is ≡ true → map (λ p. p / 4) (position_in cs is) ≡ cs
blocks_of_position_in [] [] is e f h = refl
blocks_of_position_in (n ∷ ns) (c ∷ cs) [] e f h = absurd (false≢true h)
blocks_of_position_in (n ∷ ns) (c ∷ cs) (i ∷ is) e f h =
    let parts = and_parts (nat_lt i (min 4 (n - 4 * c))) (is_inside (extents ns cs) is) h in
    let lt = ltb-true i (min 4 (n - 4 * c)) parts.0 in
    let first : (4 * c + i) / 4 ≡ c = omega (arith, lt) in
    rw (first, blocks_of_position_in ns cs is (omega arith) (omega arith) parts.1)
blocks_of_position_in _ _ is e f h = absurd (omega arith)

indices_of_position_in : (ns cs is : List ℕ) → length cs ≡ length ns → length is ≡ length ns → is_inside (extents ns cs) is ≡ true → map (λ p. p % 4) (position_in cs is) ≡ is
indices_of_position_in [] [] [] e f h = refl
indices_of_position_in (n ∷ ns) (c ∷ cs) [] e f h = absurd (false≢true h)
indices_of_position_in (n ∷ ns) (c ∷ cs) (i ∷ is) e f h =
    let parts = and_parts (nat_lt i (min 4 (n - 4 * c))) (is_inside (extents ns cs) is) h in
    let lt = ltb-true i (min 4 (n - 4 * c)) parts.0 in
    let first : (4 * c + i) % 4 ≡ i = omega (arith, lt) in
    rw (first, indices_of_position_in ns cs is (omega arith) (omega arith) parts.1)
indices_of_position_in _ _ is e f h = absurd (omega arith)

length-position_in : (cs is : List ℕ) → length cs ≡ length is → length (position_in cs is) ≡ length cs
length-position_in (c ∷ cs) (i ∷ is) e = ap suc (length-position_in cs is (omega arith))
length-position_in _ is e = search rules

-- ---- the laws

-- the coordinates of a position's block, and its indices there, from the two numbers
coordinates_of_block : (ns ps : List ℕ) → length ps ≡ length ns → is_inside ns ps ≡ true → coordinates (grid ns) (block_number ns ps) ≡ map (λ p. p / 4) ps
coordinates_of_block ns ps e h =
    coordinates-raster (grid ns) (map (λ p. p / 4) ps) (length-map ps (λ p. p / 4) ∙ e ∙ sym (length-map ns (λ n. (n + 3) / 4))) (is_inside-grid ns ps h)

indices_of_place : (ps : List ℕ) → indices (length ps) (place_of ps) ≡ map (λ p. p % 4) ps
indices_of_place ps =
    coordinates-raster (fours (length ps)) (map (λ p. p % 4) ps) (length-map ps (λ p. p % 4) ∙ sym (length-fours (length ps))) (is_inside-fours ps)

-- a position is in the block and at the place that its numbers say
pub IsAt-position : (ns ps : List ℕ) → length ps ≡ length ns → is_inside ns ps ≡ true → IsAt ns ps (block_number ns ps) (place_of ps)
IsAt-position ns ps e h =
    search (rules, coordinates_of_block, indices_of_place, raster-lt, is_inside-grid, is_inside-fours, product-fours, is_inside-extents, position_in-parts)

-- a place that exists is that of a position of the array, and of no other
module _ (ns ps : List ℕ) (b p : ℕ) (h : IsAt ns ps b p) where
  block_length : length (coordinates (grid ns) b) ≡ length ns
  block_length = length-coordinates (grid ns) b ∙ length-map ns (λ n. (n + 3) / 4)

  place_length : length (indices (length ns) p) ≡ length ns
  place_length = length-coordinates (fours (length ns)) p ∙ length-fours (length ns)

  pub IsAt-inside : is_inside ns ps ≡ true
  IsAt-inside =
      subst (λ at. is_inside ns at ≡ true) h.position (is_inside-position_in ns (coordinates (grid ns) b) (indices (length ns) p) block_length h.exists)

  pub IsAt-length : length ps ≡ length ns
  IsAt-length =
      ap length (sym h.position) ∙ length-position_in (coordinates (grid ns) b) (indices (length ns) p) (block_length ∙ sym place_length) ∙ block_length

  pub IsAt-block : b ≡ block_number ns ps
  IsAt-block = search (rules, blocks_of_position_in, block_length, place_length, raster-coordinates)

  pub IsAt-place : p ≡ place_of ps
  IsAt-place = search (rules, indices_of_position_in, block_length, place_length, product-fours, IsAt-length, raster-coordinates)
