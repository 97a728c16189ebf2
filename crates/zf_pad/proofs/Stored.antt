-- The values of an array in the order of blocks: where those of a block begin, and what they are in raster order.
use Rattle.std.proofs.Common.{rules, ◌≡◌, refl, sym, ap, subst, ◌∙◌, ℕ, zero, suc, ◌+◌, ◌-◌, ◌*◌, ◌/◌, ◌%◌, ◌^◌, ◌<◌, ◌≤◌, ⊎_elim, min, true, cond, ℤ, pos, List, [], ◌∷◌, ◌++◌, length, get_or, take, map, mod-lt, mod-eq_of_lt, mul-le-mul_left, arith, length-append}
use Rattle.std.proofs.Math.Nat.{add-mul-mod_self_left, add-mul-div_left, div-eq_of_lt, div-add-mod, mul-mod_right}
use Rattle.std.{proofs.Math.ListN.{get_or-append}, proofs.lemmas.Bool.{cases_lt}}
use Rattle.std.proofs.lemmas.Nat.{div_below}
use Rattle.std.proofs.lemmas.List.{length-map, get_or-append_right, get_or-take, length-take-le}
use Rattle.zf_spec.specs.Grid.{product, grid, blocks, coordinates, raster, is_inside, fours, indices, extent_of, position_in, value_at, block_of, blocks_of}
use Rattle.zf_spec.{specs.Codes.{existing_values}, proofs.Raster.{coordinates-raster, length-fours}}
use Rattle.zf_spec.proofs.Counting.{length-map-upto, get_or-map-upto, map-upto_same, from_places}
use Rattle.zf_spec.proofs.Padding.{get_or-existing_inside, existing_values-existing_values}
use Rattle.zf_base.{specs.Places.{IsAt}, proofs.Boxes.{factor_not_zero, raster-lt}}
use Rattle.zf_base.proofs.Extents.{length-extent_of}
use Rattle.zf_base.proofs.Places.{is_inside-grid, is_inside-fours, IsAt-inside, IsAt-length, IsAt-block, IsAt-place}
use Rattle.zf_pad.proofs.Blocks.{existing_by, cond_same}
use Rattle.zf_pad.specs.Stored.{start_at, stored_index, raster_of, AppendsBlock}

-- ---- where the values of a block begin

-- one position more in a box: along the first axis, or along the others
module _ (g b : ℕ) (some : 0 < g) where
  parts : b ≡ b % g + g * (b / g)
  parts = omega (arith, div-add-mod b g)

  pub next_mod : suc (b % g) < g → suc b % g ≡ suc (b % g)
  next_mod lt =
      let is : suc b ≡ suc (b % g) + g * (b / g) = omega (arith, parts) in
      ap (λ k. k % g) is ∙ add-mul-mod_self_left (suc (b % g)) g (b / g) ∙ mod-eq_of_lt lt

  pub next_div : suc (b % g) < g → suc b / g ≡ b / g
  next_div lt = search (rules, parts, add-mul-div_left, div-eq_of_lt)

  pub last_is : suc (b % g) ≡ g → suc b ≡ g * suc (b / g)
  last_is same = omega (arith, parts, same)

  pub last_mod : suc (b % g) ≡ g → suc b % g ≡ 0
  last_mod same = ap (λ k. k % g) (last_is same) ∙ mul-mod_right g (suc (b / g))

  pub last_div : suc (b % g) ≡ g → suc b / g ≡ suc (b / g)
  last_div same = search (rules, last_is, add-mul-div_left, div-eq_of_lt)

below_of_product : (g q m : ℕ) → g * q < g * m → q < m
below_of_product g q m lt = ⊎_elim (λ (h : q < m). h) (λ (h : m ≤ q). absurd (omega (arith, lt, mul-le-mul_left g h))) (cases_lt q m)

same_of_product : (g q m : ℕ) → 0 < g → g * q ≡ g * m → q ≡ m
same_of_product g q m some same = search (rules, mul-le-mul_left, cases_lt)

-- the values of a block end where those of the next one begin, and those of the last one where all end
pub record EndsAt (ns : List ℕ) (b : ℕ) : Type 0 where
  pub next : suc b < blocks ns → start_at ns (coordinates (grid ns) b) + product (extent_of ns b) ≡ start_at ns (coordinates (grid ns) (suc b))
  pub last : suc b ≡ blocks ns → start_at ns (coordinates (grid ns) b) + product (extent_of ns b) ≡ product ns

-- along the first axis
ends_within : (n : ℕ) (ns : List ℕ) (b : ℕ) → 0 < (n + 3) / 4 → suc (b % ((n + 3) / 4)) < (n + 3) / 4 → EndsAt (n ∷ ns) b
ends_within n ns b some lt =
    let g = (n + 3) / 4 in
    let c = b % g in
    let whole : min 4 (n - 4 * c) ≡ 4 = omega (arith, lt) in
    record {
      next = search (rules, next_mod, next_div);
      last = λ h. absurd (omega (arith, next_mod g b some lt, ap (λ k. k % g) h ∙ mul-mod_right g (blocks ns)));
    }

-- or along the others
ends_behind : (n : ℕ) (ns : List ℕ) (b : ℕ) → 0 < (n + 3) / 4 → suc (b % ((n + 3) / 4)) ≡ (n + 3) / 4 → EndsAt ns (b / ((n + 3) / 4)) → EndsAt (n ∷ ns) b
ends_behind n ns b some same rest =
    let g = (n + 3) / 4 in
    let c = b % g in
    let q = b / g in
    let size = product (extent_of ns q) in
    let from = start_at ns (coordinates (grid ns) q) in
    let is = last_is g b some same in
    let all : 4 * c + min 4 (n - 4 * c) ≡ n = omega (arith, same) in
    let row : start_at (n ∷ ns) (coordinates (grid (n ∷ ns)) b) + product (extent_of (n ∷ ns) b) ≡ n * (from + size) = omega (arith, ap (λ k. k * size) all) in
    search (rules, below_of_product, last_mod, last_div, same_of_product)

pub ends_at : (ns : List ℕ) (b : ℕ) → b < blocks ns → EndsAt ns b
ends_at [] b lt = record { next = λ h. absurd (omega (arith, lt, h)); last = λ h. refl }
ends_at (n ∷ ns) b lt =
    let g = (n + 3) / 4 in
    let some : 0 < g = factor_not_zero g (blocks ns) b lt in
    let inside : b % g < g = mod-lt b some in
    ⊎_elim
    (λ (h : suc (b % g) < g). ends_within n ns b some h)
    (λ (h : g ≤ suc (b % g)). ends_behind n ns b some (omega (arith, inside, h)) (ends_at ns (b / g) (div_below b g (blocks ns) some (omega (arith, lt)))))
    (cases_lt (suc (b % g)) g)

-- the first block begins at the front
starts_at_zero : (ns : List ℕ) → 0 < blocks ns → start_at ns (coordinates (grid ns) 0) ≡ 0
starts_at_zero [] lt = refl
starts_at_zero (n ∷ ns) lt =
    let g = (n + 3) / 4 in
    let some : 0 < g = factor_not_zero g (blocks ns) 0 lt in
    let more : 0 < blocks ns = factor_not_zero (blocks ns) g 0 (omega (arith, lt)) in
    ap (λ k. start_at (n ∷ ns) (k ∷ coordinates (grid ns) (0 / g))) (mod-eq_of_lt some)
    ∙ ap (λ k. start_at (n ∷ ns) (0 ∷ coordinates (grid ns) k)) (div-eq_of_lt some)
    ∙ omega (arith, ap (λ k. n * k) (starts_at_zero ns more))

-- how many values the first blocks have
abbrev pub stored_before : List ℕ → ℕ → ℕ
stored_before ns zero = 0
stored_before ns (suc b) = stored_before ns b + product (extent_of ns b)

-- a block begins behind the values of those before it
pub begins_at : (ns : List ℕ) (b : ℕ) → b < blocks ns → stored_before ns b ≡ start_at ns (coordinates (grid ns) b)
begins_at ns zero lt = sym (starts_at_zero ns lt)
begins_at ns (suc b) lt = ap (λ k. k + product (extent_of ns b)) (begins_at ns b (omega arith)) ∙ (ends_at ns b (omega arith)).next lt

-- all have as many values as the array
pub all_stored : (ns : List ℕ) → 0 < blocks ns → stored_before ns (blocks ns) ≡ product ns
all_stored ns some =
    let b = blocks ns - 1 in
    let is : blocks ns ≡ suc b = omega arith in
    let last : b < blocks ns = omega arith in
    ap (stored_before ns) is ∙ ap (λ k. k + product (extent_of ns b)) (begins_at ns b last) ∙ (ends_at ns b last).last (sym is)

stored_more : (ns : List ℕ) (b k : ℕ) → stored_before ns b ≤ stored_before ns (b + k)
stored_more ns b zero = let is : b + 0 ≡ b = omega arith in omega (arith, ap (stored_before ns) is)
stored_more ns b (suc k) = let is : b + suc k ≡ suc (b + k) = omega arith in omega (arith, ap (stored_before ns) is, stored_more ns b k)

-- so they are within those of more
pub stored_within : (ns : List ℕ) (a b : ℕ) → a < b → stored_before ns a + product (extent_of ns a) ≤ stored_before ns b
stored_within ns a b lt =
    let k = b - suc a in
    let is : suc a + k ≡ b = omega arith in
    omega (arith, stored_more ns (suc a) k, ap (stored_before ns) is)

-- where the value at a place of a block is
pub index_of_place : (ns ps : List ℕ) (b p : ℕ) → IsAt ns ps b p → stored_index ns ps ≡ stored_before ns b + raster (extent_of ns b) (indices (length ns) p)
index_of_place ns ps b p at =
    let cs = coordinates (grid ns) b in
    let is = indices (length ns) p in
    let inside = IsAt-inside ns ps b p at in
    let long = IsAt-length ns ps b p at in
    let blocks_are : map (λ q. q / 4) ps ≡ cs =
    sym (ap (coordinates (grid ns)) (IsAt-block ns ps b p at)
    ∙ coordinates-raster (grid ns) (map (λ q. q / 4) ps) (length-map ps (λ q. q / 4) ∙ long ∙ sym (length-map ns (λ n. (n + 3) / 4))) (is_inside-grid ns ps inside)) in
    let places_are : map (λ q. q % 4) ps ≡ is =
    sym (ap (λ d. indices d p) (sym long) ∙ ap (indices (length ps)) (IsAt-place ns ps b p at)
    ∙ coordinates-raster (fours (length ps)) (map (λ q. q % 4) ps) (length-map ps (λ q. q % 4) ∙ sym (length-fours (length ps))) (is_inside-fours ps)) in
    search (rules, begins_at)

-- ---- the blocks so far

-- of the first blocks the values that exist are there
pub record Stores (ns : List ℕ) (bs : List (List ℤ)) (stored : List ℤ) : Type 0 where
  pub long : length stored ≡ stored_before ns (length bs)
  pub existing : (b : ℕ) → b < length bs → existing_values (extent_of ns b) (get_or bs b []) ≡ get_or bs b []
  pub values : (b p : ℕ) → b < length bs → p < 4 ^ length ns → is_inside (extent_of ns b) (indices (length ns) p) ≡ true
      → get_or stored (stored_before ns b + raster (extent_of ns b) (indices (length ns) p)) (pos 0) ≡ get_or (get_or bs b []) p (pos 0)

pub stores_none : (ns : List ℕ) → Stores ns [] []
stores_none ns = record { long = refl; existing = λ b lt. absurd (omega arith); values = λ b p lt. absurd (omega arith) }

module _ (ns : List ℕ) (bs : List (List ℤ)) (b : ℕ) (block stored new : List ℤ) (is : length bs ≡ b) (h : Stores ns bs stored) (a : AppendsBlock (extent_of ns b) block stored new) where
  added : List ℤ
  added = existing_values (extent_of ns b) block

  count : length (bs ++ added ∷ []) ≡ suc b
  count = length-append bs (added ∷ []) ∙ omega (arith, is)

  before : (k : ℕ) → k < b → get_or (bs ++ added ∷ []) k [] ≡ get_or bs k []
  before k lt = get_or-append bs (added ∷ []) [] k (omega (arith, lt, is))

  here : get_or (bs ++ added ∷ []) b [] ≡ added
  here = search (rules, get_or-append_right, added)

  -- a block is one of those before, or the last
  by_block : (P : ℕ → Type 0) → ((k : ℕ) → k < b → P k) → P b → (k : ℕ) → k < length (bs ++ added ∷ []) → P k
  by_block P first last k lt = ⊎_elim (λ (l : k < b). first k l) (λ (l : b ≤ k). subst P (omega (arith, lt, count, l)) last) (cases_lt k b)

  place_below : (k p : ℕ) → is_inside (extent_of ns k) (indices (length ns) p) ≡ true → k < b → stored_before ns k + raster (extent_of ns k) (indices (length ns) p) < length stored
  place_below k p inside lt = omega (arith, raster-lt (extent_of ns k) (indices (length ns) p) inside, stored_within ns k b lt, h.long, ap (stored_before ns) is)

  stays : (k p : ℕ) → k < b → p < 4 ^ length ns → is_inside (extent_of ns k) (indices (length ns) p) ≡ true
      → get_or new (stored_before ns k + raster (extent_of ns k) (indices (length ns) p)) (pos 0) ≡ get_or (get_or (bs ++ added ∷ []) k []) p (pos 0)
  stays k p lt small inside = search (rules, get_or-append, place_below, before)

  comes : (p : ℕ) → p < 4 ^ length ns → is_inside (extent_of ns b) (indices (length ns) p) ≡ true
      → get_or new (stored_before ns b + raster (extent_of ns b) (indices (length ns) p)) (pos 0) ≡ get_or (get_or (bs ++ added ∷ []) b []) p (pos 0)
  unfolding added
  comes p small inside = search (rules, length-extent_of, get_or-append_right, get_or-existing_inside, here)

  -- one block more
  pub stores_more : Stores ns (bs ++ existing_values (extent_of ns b) block ∷ []) new
  unfolding added
  stores_more = record {
    long = ap length a.behind ∙ length-append stored a.more ∙ omega (arith, h.long, ap (stored_before ns) is, a.long) ∙ ap (stored_before ns) (sym count);
    existing = by_block (λ k. existing_values (extent_of ns k) (get_or (bs ++ added ∷ []) k []) ≡ get_or (bs ++ added ∷ []) k [])
        (λ k lt. ap (existing_values (extent_of ns k)) (before k lt) ∙ h.existing k (omega (arith, lt, is)) ∙ sym (before k lt))
        (ap (existing_values (extent_of ns b)) here ∙ existing_values-existing_values (extent_of ns b) block ∙ sym here);
    values = λ k p lt small inside.
        by_block
        (λ k. is_inside (extent_of ns k) (indices (length ns) p) ≡ true
        → get_or new (stored_before ns k + raster (extent_of ns k) (indices (length ns) p)) (pos 0) ≡ get_or (get_or (bs ++ added ∷ []) k []) p (pos 0))
        (λ k l i. stays k p l small i) (λ i. comes p small i) k lt inside;
  }

-- ---- all blocks

pub length-raster_of : (ns : List ℕ) (stored : List ℤ) → length (raster_of ns stored) ≡ product ns
length-raster_of ns stored = length-map-upto (λ k. get_or stored (stored_index ns (coordinates ns k)) (pos 0)) (product ns)

-- a value in raster order
pub raster_value : (ns ps : List ℕ) (stored : List ℤ) → length ps ≡ length ns → is_inside ns ps ≡ true → get_or (raster_of ns stored) (raster ns ps) (pos 0) ≡ get_or stored (stored_index ns ps) (pos 0)
raster_value ns ps stored long inside = search (rules, get_or-map-upto, raster-lt, coordinates-raster)

-- in one dimension they stand in raster order
pub raster_of_one : (ns : List ℕ) (stored : List ℤ) → length ns ≡ 1 → product ns ≤ length stored → raster_of ns stored ≡ take (product ns) stored
raster_of_one (n ∷ []) stored one within =
    let all = product (n ∷ []) in
    from_places (λ k. get_or stored (stored_index (n ∷ []) (k % n ∷ [])) (pos 0)) all (pos 0) (take all stored) (length-take-le all stored within)
    (search (rules, mod-eq_of_lt, get_or-take))
raster_of_one ns stored one within = absurd (omega arith)

-- they are the blocks of the values in raster order
pub blocks_stored : (ns : List ℕ) (bs : List (List ℤ)) (stored : List ℤ) → length bs ≡ blocks ns → Stores ns bs stored → bs ≡ blocks_of ns (raster_of ns stored)
blocks_stored ns bs stored count h = sym (from_places (block_of ns values) (blocks ns) [] bs count (λ b lt. block_is b lt))
  where
    values : List ℤ
    values = raster_of ns stored

    block_is : (b : ℕ) → b < blocks ns → get_or bs b [] ≡ block_of ns (raster_of ns stored) b
    block_is b lt =
        let d = length ns in
        let es = extent_of ns b in
        let cs = coordinates (grid ns) b in
        let block = get_or bs b [] in
        let vs = raster_of ns stored in
        sym (h.existing b (omega (arith, lt, count)))
        ∙ existing_by es d block (length-extent_of ns b)
        ∙ map-upto_same
        (λ p. cond (is_inside es (indices d p)) (get_or block p (pos 0)) (pos 0)) (value_at ns vs cs) (4 ^ d)
        (λ p small. cond_same (is_inside es (indices d p)) (get_or block p (pos 0)) (get_or vs (raster ns (position_in cs (indices d p))) (pos 0))
        (λ inside.
        let ps = position_in cs (indices d p) in
        let at : IsAt ns ps b p = record { block_in_array = lt; place_in_block = small; exists = inside; position = refl } in
        sym (h.values b p (omega (arith, lt, count)) small inside)
        ∙ ap (λ i. get_or stored i (pos 0)) (sym (index_of_place ns ps b p at))
        ∙ sym (raster_value ns ps stored (IsAt-length ns ps b p at) (IsAt-inside ns ps b p at))))
