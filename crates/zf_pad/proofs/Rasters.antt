-- The layout of raw values.
use Rattle.std.proofs.Common.{◌≡◌, ℕ, ◌-◌, ◌*◌, ◌≤◌, List, ◌++◌, length, get_or, replicate, ap, ◌∙◌, arith, lit≤}
use Rattle.std.proofs.Math.Nat.{le-mul_of_pos_right, mul-pos}
use Rattle.zf_spec.specs.Grid.{IsShape, raster, max_values}
use Rattle.zf_base.{specs.declared.position.Pos.{Pos}, proofs.Boxes.{raster-append_zeros}}
use Rattle.zf_base.specs.Positions.{axes, used_axes, with_unused, IsPosition}
use Rattle.zf_base.proofs.Sizes.{axes-with_unused, all_axes, product-axes}
use Rattle.zf_base.proofs.Extents.{length-used_axes, position_axes}
use Rattle.zf_pad.{specs.declared.layout.Layout.{Layout}, specs.Layouts.{index_of}, specs.Rasters.{IsRaster}}

-- the products of the first sizes of a shape are no more than its number of values
pub steps_fit : (ns : List ℕ) → IsShape ns → (get_or ns 0 1 * get_or ns 1 1 ≤ max_values) × (get_or ns 0 1 * get_or ns 1 1 * get_or ns 2 1 ≤ max_values)
steps_fit ns shape =
    let s = with_unused 1 ns in
    let some = all_axes (λ n. 1 ≤ n) ns shape.four_at_most (lit≤ tt) shape.not_zero in
    let all = product-axes ns shape.four_at_most in
    let two = le-mul_of_pos_right {m = s.z * s.w} (s.x * s.y) (mul-pos some.1.1.0 some.1.1.1.0) in
    let three = le-mul_of_pos_right {m = s.w} (s.x * s.y * s.z) some.1.1.1.0 in
    (omega (arith, all, two, shape.not_too_large), omega (arith, all, three, shape.not_too_large))

-- four coordinates of a position against the used ones

raster_axes : (ns : List ℕ) (p : Pos) → length ns ≤ 4 → IsPosition ns p → raster (axes (with_unused 1 ns)) (axes p) ≡ raster ns (used_axes (length ns) p)
raster_axes ns p four h =
    ap (λ zs. raster zs (axes p)) (axes-with_unused 1 ns four) ∙ ap (raster (ns ++ replicate (4 - length ns) 1)) (position_axes ns p four h) ∙ raster-append_zeros ns (replicate (4 - length ns) 1) (used_axes (length ns) p) (4 - length ns) (length-used_axes (length ns) p four)

-- a layout with the steps of four sizes
pub by_steps : (layout : Layout) (s p : Pos) → layout.start ≡ 0 → layout.step.x ≡ 1 → layout.step.y ≡ s.x → layout.step.z ≡ s.x * s.y → layout.step.w ≡ s.x * s.y * s.z → index_of layout p ≡ raster (axes s) (axes p)
unfolding index_of
by_steps layout s p start x y z w = rw (start, x, y, z, w) (omega arith)

pub raster_layout : (ns : List ℕ) (layout : Layout) → IsShape ns → layout.start ≡ 0 → layout.step.x ≡ 1 → layout.step.y ≡ get_or ns 0 1 → layout.step.z ≡ get_or ns 0 1 * get_or ns 1 1 → layout.step.w ≡ get_or ns 0 1 * get_or ns 1 1 * get_or ns 2 1 → IsRaster ns layout
raster_layout ns layout shape start x y z w = λ p h. by_steps layout (with_unused 1 ns) p start x y z w ∙ raster_axes ns p shape.four_at_most h
