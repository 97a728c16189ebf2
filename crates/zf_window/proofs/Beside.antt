-- Positions of a window that stand side by side in one block of the array.
use Rattle.std.proofs.Common.{◌≡◌, ℕ, suc, ◌+◌, ◌*◌, ◌/◌, ◌%◌, ◌^◌, ◌<◌, ◌≤◌, true, ltb, ltb-true, lt-ltb, eqb-true, List, ◌∷◌, length, ap, sym, subst, ◌∙◌, div-add-mod', arith, rules}
use Rattle.std.{proofs.Math.Nat.{add-mul}, proofs.lemmas.Bool.{and_parts, and_from}}
use Rattle.zf_spec.{specs.Grid.{IsShape, product, coordinates, is_inside}, proofs.Raster.{length-coordinates}}
use Rattle.zf_base.{specs.declared.position.Pos.{Pos}, specs.Positions.{used_axes, with_unused, IsPosition}}
use Rattle.zf_base.{specs.Places.{block_number, place_of, IsAt}, proofs.Boxes.{is_inside-coordinates}}
use Rattle.zf_base.proofs.Extents.{IsPosition-with_unused, used_axes-with_unused}
use Rattle.zf_base.proofs.Places.{IsAt-position, IsAt-block, IsAt-place}
use Rattle.zf_cached.specs.Windows.{Window, LiesIn, stepped, mapped}
use Rattle.zf_cached.proofs.Windows.{mapped_inside, length-mapped}
use Rattle.zf_window.{specs.Positions.{numbered, raster_at}, specs.Places.{IsThere, side_count}}
use Rattle.zf_window.{proofs.Raster.{product_window}, proofs.Walks.{stays, position_at-numbered}}

-- ---- k further along x, within a block

pub block_further : (ns : List ℕ) (x y k : ℕ) (rest : List ℕ) → y ≡ x + k → x % 4 + k < 4 → block_number ns (y ∷ rest) ≡ block_number ns (x ∷ rest)
block_further _ x y k rest is within = search rules

pub place_further : (x y k : ℕ) (rest : List ℕ) → y ≡ x + k → x % 4 + k < 4 → place_of (y ∷ rest) ≡ place_of (x ∷ rest) + k
place_further x y k rest is within = search rules

-- ---- position k of a window, and those that follow along x

-- n positions from number k on are side by side in one block
pub record IsSide (ns : List ℕ) (w : Window) (k n : ℕ) : Type 0 where
  pub some : 0 < n
  pub inside : (i : ℕ) → i < n → IsPosition w.size (numbered w (k + i))
  pub along : (i : ℕ) → i < n → numbered w (k + i) ≡ record { x = (numbered w k).x + i; y = (numbered w k).y; z = (numbered w k).z; w = (numbered w k).w }
  pub small : (numbered w k).x ≤ k
  pub there : (b p : ℕ) → IsThere ns w k b p → (i : ℕ) → i < n → IsThere ns w (k + i) b (p + i)

module _ (ns : List ℕ) (o s t : ℕ) (os ss ts : List ℕ) (lies : LiesIn ns (record { origin = o ∷ os; size = s ∷ ss; step = t ∷ ts })) (four : length (s ∷ ss) ≤ 4) (k : ℕ) (below : k < product (s ∷ ss)) where
  abbrev w : Window
  w = record { origin = o ∷ os; size = s ∷ ss; step = t ∷ ts }

  abbrev cs : List ℕ
  cs = coordinates ss (k / s)

  parts : (ltb (k % s) s ≡ true) × (is_inside ss cs ≡ true)
  parts = and_parts (ltb (k % s) s) (is_inside ss cs) (is_inside-coordinates (s ∷ ss) k below)

  first : k % s < s
  first = ltb-true (k % s) s parts.0

  module _ (i : ℕ) (row : k % s + i < s) where
    coords : coordinates (s ∷ ss) (k + i) ≡ (k % s + i) ∷ cs
    coords = let on = stays s k i row in λ j. on.0 j ∷ coordinates ss (on.1 j)

    inside_on : is_inside (s ∷ ss) (coordinates (s ∷ ss) (k + i)) ≡ true
    inside_on = subst (λ ps. is_inside (s ∷ ss) ps ≡ true) (sym coords) (and_from (ltb (k % s + i) s) (is_inside ss cs) (lt-ltb (k % s + i) s row) parts.1)

    there_on : (o + (k % s) * t) % 4 + i < 4 → i * t ≡ i → (b p : ℕ) → IsThere ns w k b p → IsThere ns w (k + i) b (p + i)
    there_on in_block one b p at =
        let ms = stepped os ts cs in
        let x = o + (k % s) * t in
        let y = o + (k % s + i) * t in
        let to = mapped w (coordinates (s ∷ ss) (k + i)) in
        let further : y ≡ x + i = omega (arith, add-mul (k % s) i t, one) in
        let maps : to ≡ y ∷ ms = ap (mapped w) coords in
        let long = length-coordinates (s ∷ ss) (k + i) in
        let found = IsAt-position ns to (length-mapped ns w (coordinates (s ∷ ss) (k + i)) lies long) (mapped_inside ns w lies (coordinates (s ∷ ss) (k + i)) inside_on long) in
        let block : block_number ns to ≡ b = ap (block_number ns) maps ∙ block_further ns x y i ms further in_block ∙ sym (IsAt-block ns (x ∷ ms) b p at) in
        let place : place_of to ≡ p + i = ap place_of maps ∙ place_further x y i ms further in_block ∙ ap (λ n. n + i) (sym (IsAt-place ns (x ∷ ms) b p at)) in
        subst (λ m. IsAt ns to m (p + i)) block (subst (λ m. IsAt ns to (block_number ns to) m) place found)

  -- how far they go
  reaches : (0 < side_count w (numbered w k)) × ((i : ℕ) → i < side_count w (numbered w k) → (k % s + i < s) × ((o + (k % s) * t) % 4 + i < 4) × (i * t ≡ i))
  reaches = search (rules, position_at-numbered, first, eqb-true)

  side : IsSide ns w k (side_count w (numbered w k))
  side = record {
    some = reaches.0;
    inside = λ i lt. let row = (reaches.1 i lt).0 in
        IsPosition-with_unused (s ∷ ss) (coordinates (s ∷ ss) (k + i)) four (length-coordinates (s ∷ ss) (k + i)) (inside_on i row);
    along = λ i lt. ap (with_unused 0) (coords i (reaches.1 i lt).0);
    small = omega (arith, div-add-mod' k s);
    there = λ b p at i lt. let r = reaches.1 i lt in there_on i r.0 r.1 r.2 b p at;
  }

-- the window has an axis, as its array has
pub sides : (ns os ss ts : List ℕ) → IsShape ns → (let w : Window = record { origin = os; size = ss; step = ts } in
    LiesIn ns w → (k : ℕ) → k < product ss → IsSide ns w k (side_count w (numbered w k)))
sides ns (o ∷ os) (s ∷ ss) (t ∷ ts) sizes lies k below = side ns o s t os ss ts lies (omega (arith, lies.sizes, sizes.four_at_most)) k below
sides ns _ ss ts sizes lies k below = search rules

-- the place of the first of them
pub first_there : (ns : List ℕ) (w : Window) (k : ℕ) (q : Pos) (b p : ℕ) → IsShape ns → LiesIn ns w → q ≡ raster_at w k → IsAt ns (used_axes (length ns) q) b p → IsThere ns w k b p
first_there ns w k q b p sizes lies is at =
    let ms = mapped w (coordinates w.size k) in
    let long : length ms ≡ length ns = length-mapped ns w (coordinates w.size k) lies (length-coordinates w.size k) in
    let numbers : used_axes (length ns) q ≡ ms = ap (used_axes (length ns)) is ∙ ap (λ n. used_axes n (with_unused 0 ms)) (sym long) ∙ used_axes-with_unused 0 ms (omega (arith, long, sizes.four_at_most)) in
    subst (λ ps. IsAt ns ps b p) numbers at

-- a block has 256 places at most
pub place_small : (ns : List ℕ) (b p : ℕ) (ps : List ℕ) → IsShape ns → IsAt ns ps b p → p < 256
place_small ns b p ps sizes at = by (length ns) sizes.four_at_most at.place_in_block
  where
    by : (d : ℕ) → d ≤ 4 → p < 4 ^ d → p < 256
    by (suc (suc (suc (suc (suc d))))) four lt = absurd (omega arith)
    by d four lt = omega arith

-- the positions that follow the one of a walk
module _ (ns : List ℕ) (w : Window) (here : Pos) (k n : ℕ) (sizes : IsShape ns) (lies : LiesIn ns w) (here_is : here ≡ numbered w k) (below : k < product w.size) (count : n ≡ side_count w here) where
  pub sided : IsSide ns w k n
  sided = subst (IsSide ns w k) (sym (count ∙ ap (side_count w) here_is)) (sides ns w.origin w.size w.step sizes lies k below)

  -- far from the end of 64 bits
  pub few : (product w.size ≤ 2 ^ 27) × (here.x ≤ k)
  few = (omega (arith, product_window ns w lies, sizes.not_too_large), subst (λ (p : Pos). p.x ≤ k) (sym here_is) sided.small)

  module _ (i : ℕ) (lt : i < n) where
    pub along_is : record { x = here.x + i; y = here.y; z = here.z; w = here.w } ≡ numbered w (k + i)
    along_is = ap (λ (p : Pos). let q : Pos = record { x = p.x + i; y = p.y; z = p.z; w = p.w } in q) here_is ∙ sym (sided.along i lt)

    pub along_inside : IsPosition w.size (record { x = here.x + i; y = here.y; z = here.z; w = here.w })
    along_inside = subst (IsPosition w.size) (sym along_is) (sided.inside i lt)
