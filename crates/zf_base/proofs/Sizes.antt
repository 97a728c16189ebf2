-- Sizes along four axes, of which the unused ones are 1, against the list of the used ones.
use Rattle.std.proofs.Common.{◌≡◌, ℕ, zero, suc, ◌+◌, ◌-◌, ◌/◌, ◌^◌, ◌≤◌, Bool, true, false, cond, Some, None, is_none, nat_lt, ◌==◌, List, [], ◌∷◌, ◌++◌, length, replicate, refl, ap, sym, subst, ◌∙◌, arith, lit≤, rules}
use Rattle.std.{specs.List.{AllByRecursion, list_any}, proofs.Math.Nat.{mul-le-mul, one-le-mul}}
use Rattle.std.{proofs.lemmas.List.{length-map}, proofs.lemmas.Bool.{or_parts, eqb-false, ltb-false, le-ltb}}
use Rattle.std.proofs.lemmas.Nat.{pow_pos}
use Rattle.zf_spec.specs.Grid.{product, grid, blocks, max_values, IsShape}
use Rattle.zf_base.{specs.declared.position.Pos.{Pos}, specs.Shapes.{shape_fault}}
use Rattle.zf_base.specs.Positions.{axes, used_axes, with_unused, IsShapeOf}
use Rattle.zf_base.specs.declared.shape.ShapeFault.TheVariants.{Zero, Field, TooLarge}
use Rattle.zf_base.proofs.Boxes.{product-append_ones}

pub axes-with_unused : (n : ℕ) (ns : List ℕ) → length ns ≤ 4 → axes (with_unused n ns) ≡ ns ++ replicate (4 - length ns) n
axes-with_unused n (a ∷ b ∷ c ∷ d ∷ e ∷ ns) h = absurd (omega arith)
axes-with_unused n _ h = refl

-- what holds of the used sizes and of 1 holds of all four
AllByRecursion-ones : (P : ℕ → Type 0) (ns : List ℕ) (k : ℕ) → P 1 → AllByRecursion P ns → AllByRecursion P (ns ++ replicate k 1)
AllByRecursion-ones P [] zero one h = tt
AllByRecursion-ones P [] (suc k) one h = (one, AllByRecursion-ones P [] k one tt)
AllByRecursion-ones P (n ∷ ns) k one h = (h.0, AllByRecursion-ones P ns k one h.1)

pub all_axes : (P : ℕ → Type 0) (ns : List ℕ) → length ns ≤ 4 → P 1 → AllByRecursion P ns → AllByRecursion P (axes (with_unused 1 ns))
all_axes P ns four one h = subst (AllByRecursion P) (sym (axes-with_unused 1 ns four)) (AllByRecursion-ones P ns (4 - length ns) one h)

list_any-ones : (p : ℕ → Bool) (ns : List ℕ) (k : ℕ) → p 1 ≡ false → list_any p (ns ++ replicate k 1) ≡ list_any p ns
list_any-ones p [] zero one = refl
list_any-ones p [] (suc k) one = rw (one, list_any-ones p [] k one)
list_any-ones p (n ∷ ns) k one = rw (list_any-ones p ns k one)

pub list_any-axes : (p : ℕ → Bool) (s : Pos) (ns : List ℕ) → length ns ≤ 4 → s ≡ with_unused 1 ns → p 1 ≡ false → list_any p (axes s) ≡ list_any p ns
list_any-axes p s ns four e one =
    ap (λ t. list_any p (axes t)) e ∙ ap (list_any p) (axes-with_unused 1 ns four) ∙ list_any-ones p ns (4 - length ns) one

pub product-axes : (ns : List ℕ) → length ns ≤ 4 → product (axes (with_unused 1 ns)) ≡ product ns
product-axes ns four = ap product (axes-with_unused 1 ns four) ∙ product-append_ones ns (4 - length ns)

-- ---- bounds

pub product_not_zero : (ns : List ℕ) → AllByRecursion (λ n. 1 ≤ n) ns → 1 ≤ product ns
product_not_zero [] h = lit≤ tt
product_not_zero (n ∷ ns) h = one-le-mul h.0 (product_not_zero ns h.1)

pub grid_not_zero : (ns : List ℕ) → AllByRecursion (λ n. 1 ≤ n) ns → AllByRecursion (λ n. 1 ≤ n) (grid ns)
grid_not_zero [] h = tt
grid_not_zero (n ∷ ns) h = (omega arith, grid_not_zero ns h.1)

-- there are no more blocks than values
pub blocks_le : (ns : List ℕ) → AllByRecursion (λ n. 1 ≤ n) ns → blocks ns ≤ product ns
blocks_le [] h = lit≤ tt
blocks_le (n ∷ ns) h =
    let few : (n + 3) / 4 ≤ n = omega (arith, h.0) in mul-le-mul few (blocks_le ns h.1)

-- sizes that fit their fields have no more than 2^48 values
pub product_fields : (ns : List ℕ) → 1 ≤ length ns → length ns ≤ 4 → AllByRecursion (λ n. n ≤ 2 ^ (48 / length ns)) ns → product ns ≤ 2 ^ 48
product_fields (a ∷ []) one four h = omega (arith, h.0)
product_fields (a ∷ b ∷ []) one four h = omega (arith, mul-le-mul h.0 h.1.0)
product_fields (a ∷ b ∷ c ∷ []) one four h = omega (arith, mul-le-mul h.0 (mul-le-mul h.1.0 h.1.1.0))
product_fields (a ∷ b ∷ c ∷ d ∷ []) one four h = omega (arith, mul-le-mul h.0 (mul-le-mul h.1.0 (mul-le-mul h.1.1.0 h.1.1.1.0)))
product_fields _ one four h = absurd (omega arith)

-- no size is above a bound
pub none_above : (most : ℕ) (ns : List ℕ) → list_any (λ n. nat_lt most n) ns ≡ false → AllByRecursion (λ n. n ≤ most) ns
none_above most [] h = tt
none_above most (n ∷ ns) h =
    let parts = or_parts (nat_lt most n) (list_any (λ n. nat_lt most n) ns) h in
    (ltb-false most n parts.0, none_above most ns parts.1)

-- ---- the faults of sizes

pub any_above_field : (s : Pos) (d most : ℕ) (ns : List ℕ) → length ns ≤ 4 → d ≡ length ns → s ≡ with_unused 1 ns → most ≡ 2 ^ (48 / d) → list_any (λ n. nat_lt (2 ^ (48 / length ns)) n) ns ≡ list_any (λ n. nat_lt most n) (axes s)
any_above_field s d most ns four same e is_most =
    let above : ℕ → Bool = λ m. list_any (λ n. nat_lt m n) ns in
    let all = list_any-axes (λ n. nat_lt most n) s ns four e (rw is_most (le-ltb (2 ^ (48 / d)) 1 (pow_pos (48 / d)))) in
    ap (λ k. above (2 ^ (48 / k))) (sym same) ∙ ap above (sym is_most) ∙ sym all

pub field_fault : (ns : List ℕ) → list_any (λ n. n == 0) ns ≡ false → list_any (λ n. nat_lt (2 ^ (48 / length ns)) n) ns ≡ true → Some Field ≡ shape_fault ns
field_fault ns no_zero above = rw (no_zero, above)

none_zero : (ns : List ℕ) → list_any (λ n. n == 0) ns ≡ false → AllByRecursion (λ n. 1 ≤ n) ns
none_zero [] h = tt
none_zero (n ∷ ns) h =
    let parts = or_parts (n == 0) (list_any (λ n. n == 0) ns) h in
    let ne = eqb-false n 0 parts.0 in
    (omega arith, none_zero ns parts.1)

no_fault : (z f l : Bool) → is_none (cond z (Some Zero) (cond f (Some Field) (cond l (Some TooLarge) None))) ≡ true → (z ≡ false) × (f ≡ false) × (l ≡ false)
no_fault _ f l h = search rules

-- sizes with no fault are a shape's
pub shape_from_no_fault : (ns : List ℕ) → 1 ≤ length ns → length ns ≤ 4 → is_none (shape_fault ns) ≡ true → IsShape ns
shape_from_no_fault ns some few none = search (rules, no_fault, none_zero, none_above, ltb-false)

-- ---- what the four sizes of a shape and of its grid are

pub sizes_not_zero : (d : ℕ) (s : Pos) → IsShapeOf d s → AllByRecursion (λ n. 1 ≤ n) (axes s)
sizes_not_zero d s h =
    subst (λ p. AllByRecursion (λ n. 1 ≤ n) (axes p)) (sym h.unused) (all_axes (λ n. 1 ≤ n) (used_axes d s) h.shape.four_at_most (lit≤ tt) h.shape.not_zero)

pub record IsGridOf (ns : List ℕ) (g : Pos) : Type 0 where
  pub not_zero : AllByRecursion (λ n. 1 ≤ n) (axes g)
  pub count : product (axes g) ≡ blocks ns
  pub some : 1 ≤ blocks ns
  pub bound : blocks ns ≤ max_values

pub grid_of_shape : (ns : List ℕ) (g : Pos) → IsShape ns → g ≡ with_unused 1 (grid ns) → IsGridOf ns g
grid_of_shape ns g shape e =
    search (rules, length-map, grid_not_zero, all_axes, product-axes, product_not_zero, blocks_le)
