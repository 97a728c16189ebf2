-- The position of the array that a position of a window is, is one of the array's.
use Rattle.std.proofs.Common.{◌≡◌, ℕ, suc, ◌≤◌, true, ltb, List, ◌∷◌, length, take, arith, rules}
use Rattle.std.proofs.lemmas.Bool.{and_parts}
use Rattle.zf_spec.specs.Grid.{is_inside}
use Rattle.zf_base.{specs.declared.position.Pos.{Pos}, specs.Positions.{axes, used_axes, IsPosition}}
use Rattle.zf_base.proofs.Extents.{length-used_axes, IsPosition-with_unused}
use Rattle.zf_cached.{specs.Windows.{Window, LiesIn, mapped}, proofs.Windows.{mapped_inside, length-mapped}}
use Rattle.zf_window.specs.Positions.{position_at}

-- a position that is inside has a coordinate for each axis
inside_long : (ns ps : List ℕ) → is_inside ns ps ≡ true → length ns ≤ length ps
inside_long (n ∷ ns) (p ∷ ps) inside = omega (arith, inside_long ns ps (and_parts (ltb p n) (is_inside ns ps) inside).1)
inside_long _ ps inside = search rules

take_at_most : (k : ℕ) (xs : List ℕ) → length (take k xs) ≤ length xs
take_at_most (suc k) (x ∷ xs) = omega (arith, take_at_most k xs)
take_at_most x xs = omega arith

-- so there are four axes at most
pub four_axes : (ns : List ℕ) (p : Pos) → IsPosition ns p → length ns ≤ 4
four_axes ns p at = omega (arith, inside_long ns (used_axes (length ns) p) at.inside, take_at_most (length ns) (axes p))

pub position_at-inside : (ns : List ℕ) (w : Window) (p : Pos) → LiesIn ns w → IsPosition w.size p → IsPosition ns (position_at w p)
position_at-inside ns w p lies at =
    let four = four_axes w.size p at in
    let long : length (used_axes (length w.size) p) ≡ length w.size = length-used_axes (length w.size) p four in
    IsPosition-with_unused ns (mapped w (used_axes (length w.size) p)) (omega (arith, four, lies.sizes)) (length-mapped ns w (used_axes (length w.size) p) lies long)
    (mapped_inside ns w lies (used_axes (length w.size) p) at.inside long)
