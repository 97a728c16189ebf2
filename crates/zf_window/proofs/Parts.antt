-- Windows made of their parts.
use Rattle.std.proofs.Common.{◌≡◌, ℕ, ◌-◌, ◌/◌, ◌^◌, ◌≤◌, true, false, ◌&&◌, ltb, ltb-true, lt-ltb, List, [], ◌∷◌, map, length, Some, None, refl, ◌∙◌, arith, rules}
use Rattle.std.{specs.List.{AllByRecursion}, proofs.lemmas.Bool.{and_parts, and_from}}
use Rattle.std.proofs.lemmas.List.{length-map}
use Rattle.zf_spec.specs.Grid.{IsShape, is_inside}
use Rattle.zf_base.{specs.declared.position.Pos.{Pos}, specs.Positions.{used_axes, with_unused}}
use Rattle.zf_base.proofs.Extents.{length-used_axes}
use Rattle.zf_cached.proofs.Windows.{length-stepped}
use Rattle.zf_cached.specs.Windows.{Window, LiesIn, mapped, whole, none_zero, lies_in}
use Rattle.zf_window.specs.declared.window.ViewFault.TheVariants.{Outside}
use Rattle.zf_window.specs.WindowFields.{window_of, largest, AreUnused, IsWindowOf, view_fault}

-- ---- a window of an array is one of the largest array

inside_largest : (ns ms ps : List ℕ) → AllByRecursion (λ n. n ≤ 2 ^ 48) ns → length ms ≡ length ns → is_inside ns ps ≡ true → is_inside (largest ms) ps ≡ true
inside_largest [] [] ps small same inside = refl
inside_largest (n ∷ ns) (m ∷ ms) [] small same inside = inside
inside_largest (n ∷ ns) (m ∷ ms) (p ∷ ps) small same inside =
    let parts = and_parts (ltb p n) (is_inside ns ps) inside in
    and_from (ltb p (2 ^ 48)) (is_inside (largest ms) ps) (lt-ltb p (2 ^ 48) (omega (arith, ltb-true p n parts.0, small.0))) (inside_largest ns ms ps small.1 (omega arith) parts.1)
inside_largest x y ps small same inside = absurd (omega arith)

-- what a field of the header holds is small
field_small : (d : ℕ) → 1 ≤ d → d ≤ 4 → 2 ^ (48 / d) ≤ 2 ^ 48
field_small x a b = search rules

all_small : (ns : List ℕ) (k : ℕ) → k ≤ 2 ^ 48 → AllByRecursion (λ n. n ≤ k) ns → AllByRecursion (λ n. n ≤ 2 ^ 48) ns
all_small [] k small all = tt
all_small (n ∷ ns) k small all = (omega (arith, all.0), all_small ns k small all.1)

pub sizes_small : (ns : List ℕ) → IsShape ns → AllByRecursion (λ n. n ≤ 2 ^ 48) ns
sizes_small ns shape = all_small ns (2 ^ (48 / length ns)) (field_small (length ns) shape.some_dimension shape.four_at_most) shape.fields

-- a window of an array keeps what a window keeps
pub IsWindowOf-lies : (ns : List ℕ) (o s t : Pos) → IsShape ns → AreUnused (length ns) o s t → LiesIn ns (window_of (length ns) o s t) → IsWindowOf (length ns) o s t
IsWindowOf-lies ns o s t shape unused lies =
    let d = length ns in
    let w = window_of d o s t in
    let long : length (used_axes d s) ≡ d = length-used_axes d s shape.four_at_most in
    let one = and_parts (none_zero w.size) (none_zero w.step && lies_in ns w) lies.inside in
    let two = and_parts (none_zero w.step) (lies_in ns w) one.1 in
    let as_long = length-map (used_axes d s) (λ n. 2 ^ 48) ∙ long in search (rules, and_from, inside_largest, sizes_small)

-- ---- the whole array

pub window_of-whole : (ns : List ℕ) → IsShape ns → window_of (length ns) (record { x = 0; y = 0; z = 0; w = 0 }) (with_unused 1 ns) (record { x = 1; y = 1; z = 1; w = 1 }) ≡ whole ns
window_of-whole (a ∷ b ∷ c ∷ d ∷ e ∷ ns) shape = absurd (omega (arith, shape.four_at_most))
window_of-whole x shape = search rules

pub AreUnused-whole : (ns : List ℕ) → IsShape ns → AreUnused (length ns) (record { x = 0; y = 0; z = 0; w = 0 }) (with_unused 1 ns) (record { x = 1; y = 1; z = 1; w = 1 })
AreUnused-whole (a ∷ b ∷ c ∷ d ∷ e ∷ ns) shape = absurd (omega (arith, shape.four_at_most))
AreUnused-whole x shape = search rules

-- ---- tests

pub LiesIn-tests : (ns : List ℕ) (o s t : Pos) → length ns ≤ 4 → none_zero (used_axes (length ns) s) ≡ true → none_zero (used_axes (length ns) t) ≡ true → lies_in ns (window_of (length ns) o s t) ≡ true → LiesIn ns (window_of (length ns) o s t)
LiesIn-tests ns o s t dims sizes steps inside = search (rules, length-used_axes, and_from)

pub view_fault-none : (ns : List ℕ) (w : Window) → none_zero w.size ≡ true → none_zero w.step ≡ true → lies_in ns w ≡ true → None ≡ view_fault ns w
view_fault-none ns w sizes steps inside = rw (sizes, steps, inside) refl

pub view_fault-outside : (ns : List ℕ) (w : Window) → none_zero w.size ≡ true → none_zero w.step ≡ true → lies_in ns w ≡ false → Some Outside ≡ view_fault ns w
view_fault-outside ns w sizes steps outside = rw (sizes, steps, outside) refl

-- a window has a last coordinate along each axis
pub last_long : (d : ℕ) (o s t : Pos) → d ≤ 4 → length (mapped (window_of d o s t) (map (λ n. n - 1) (used_axes d s))) ≡ d
last_long d o s t dims = length-stepped (used_axes d o) (used_axes d t) (map (λ n. n - 1) (used_axes d s)) d (length-used_axes d o dims) (length-used_axes d t dims) (length-map (used_axes d s) (λ n. n - 1) ∙ length-used_axes d s dims)
