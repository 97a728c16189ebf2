use Rattle.std.proofs.Common.{rules, ◌≡◌, ℕ, ◌+◌, ◌*◌, ◌≤◌, List, length, map, take, drop, refl, sym, ap, subst, ◌∙◌, take_at, arith}
use Rattle.std.{proofs.Math.Nat.{mul-le-mul}, proofs.lemmas.List.{length-map, take-map}}
use Rattle.zf_base.{specs.declared.position.Pos.{Pos}, specs.declared.position.Extent.{Extent}}
use Rattle.zf_base.specs.Positions.{used_axes, IsExtent}
use Rattle.zf_pad.{specs.declared.layout.Layout.{Layout}, specs.Stored.{AppendsBlock}}
use Rattle.zf_pad.proofs.Sizes.{sizes_four_at_most}
use Rattle.zf_pad.proofs.Appended.{IsBox, box_within, box_one_to_one, part_appended}
use Rattle.zf_pad.proofs.storing.append_part.Goals as goal

-- the box of the values that exist, behind so many
abbrev layout_of : ℕ → Pos → Layout
layout_of first s = record { start = first; step = record { x = 1; y = s.x; z = s.x * s.y; w = s.x * s.y * s.z } }

abbrev box_of : Pos → Extent
box_of s = record { origin = record { x = 0; y = 0; z = 0; w = 0 }; size = s }

is_box : (first : ℕ) (s : Pos) → IsBox first (layout_of first s) (box_of s)
is_box first s = record { start = refl; x = refl; y = refl; z = refl; w = refl; origin = refl }

is_extent : (d : ℕ) (e : Extent) → IsExtent d e → IsExtent d (box_of e.size)
is_extent d e h = record { not_zero = h.not_zero; four_at_most = h.four_at_most; unused = h.unused }

-- there are no more than 64 in three axes
few : (d : ℕ) (e : Extent) → d ≤ 4 → IsExtent d e → e.size.x * e.size.y * e.size.z ≤ 4 * 4 * 4
few d e dims h = search (rules, sizes_four_at_most, mul-le-mul)

pub overflow_mul-layout-3 : goal.overflow_mul-layout-3
overflow_mul-layout-3 g c = record { fits = omega (arith, few c.args.d c.args.e.now c.requires.four_at_most c.requires.extent) }

pub overflow_mul-x-2 : goal.overflow_mul-x-2
overflow_mul-x-2 g c = record { fits = omega (arith, few c.args.d c.args.e.now c.requires.four_at_most c.requires.extent) }

pub scatter-requires-clause-fits : goal.scatter-requires-clause-fits
scatter-requires-clause-fits g c =
    let s = c.args.e.now.size in
    record {
      four_at_most = c.requires.four_at_most;
      extent = is_extent c.args.d c.args.e.now c.requires.extent;
      whole = c.requires.whole;
      within = box_within c.len.result (layout_of c.len.result s) (box_of s) (is_box c.len.result s) _ (omega (arith, c.deref_mut.ensures.len, c.grow.ensures.len, c.len.ensures));
    }

pub scatter-requires-clause-one_to_one : goal.scatter-requires-clause-one_to_one
scatter-requires-clause-one_to_one g c =
    let s = c.args.e.now.size in
    box_one_to_one c.len.result (layout_of c.len.result s) (box_of s) (is_box c.len.result s)

pub returns-clause-block : goal.returns-clause-block
returns-clause-block g c =
    let value = g.T.Lane.value in
    let s = c.args.e.now.size in
    let first = c.len.result in
    let old = c.args.stored.now in
    let grown = c.grow.new.stored in
    let new = c.scatter.new.values in
    let es = used_axes c.args.d s in
    let block = map value c.args.block.now in
    let count : length grown.items ≡ first + s.x * s.y * s.z * s.w = omega (arith, grown.ok.0, c.grow.ensures.len, c.len.ensures) in
    let as_long : length new ≡ length grown.items = c.scatter.auto.values ∙ ap length c.deref_mut.ensures.value in
    let all : length new ≡ grown.len = omega (arith, as_long, grown.ok.0) in
    let front : take first (map value grown.items) ≡ map value old.items =
    take-map value first grown.items ∙ ap (λ k. map value (take k grown.items)) c.len.ensures ∙ ap (map value) c.grow.ensures.prefix in
    let put = c.scatter.ensures in
    let from = map value c.deref_mut.result.now in
    let P = λ (vs : List g.row.T.Denot). AppendsBlock es block (map value old.items) (map value vs) in
    subst P (sym (take_at new (drop (length new) grown.items) grown.len all))
    (part_appended first (layout_of first s) (box_of s) (is_box first s) c.args.d c.requires.four_at_most (is_extent c.args.d c.args.e.now c.requires.extent) block (map value old.items) from (map value new)
    (omega (arith, length-map old.items value, old.ok.0, c.len.ensures))
    (omega (arith, length-map c.deref_mut.result.now value, ap length c.deref_mut.ensures.value, count))
    (length-map new value ∙ c.scatter.auto.values ∙ sym (length-map c.deref_mut.result.now value))
    (ap (λ xs. take first (map value xs)) c.deref_mut.ensures.value ∙ front)
    put)
