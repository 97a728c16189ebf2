use Rattle.std.proofs.Common.{rules, ◌≡◌, ℕ, ◌<◌, ◌≤◌, ◌^◌, ◌/◌, true, ◌+◌, ◌*◌, sym, ap, ◌∙◌, arith}
use Rattle.zf_spec.specs.Grid.{fours}
use Rattle.zf_base.{specs.declared.position.Extent.{Extent}, specs.Positions.{used_axes}}
use Rattle.zf_pad.{specs.declared.layout.Layout.{Layout}, specs.Layouts.{index_of, place_at, block_layout, CanCopyRuns}}
use Rattle.zf_pad.proofs.Copying.{exists, place_itself, slice_index, run_within, copied_none, copied_run, copied_all}
use Rattle.zf_pad.proofs.Existing.{place_of_whole}
use Rattle.zf_pad.proofs.copies.gather_slices.Goals as goal

-- a row of a slice: where it begins, and that it ends within the values
module _ (from : Layout) (e : Extent) (d n m slices slice y start : ℕ) (count : 16 * slices ≡ 4 ^ d) (few : slices ≤ 16)
    (all : used_axes d e.size ≡ fours d) (fits : CanCopyRuns e d 4 from n block_layout m) (lt : slice < slices) (small : y < 4)
    (is : start ≡ place_at from (4 * (4 * slice))) where
  there : exists e (4 * (4 * slice + y)) ≡ true
  there = place_of_whole d e fits.four_at_most fits.extent (4 * (4 * slice + y)) all (omega arith)

  begins : start + y * from.step.y ≡ place_at from (4 * (4 * slice + y))
  begins = ap (λ i. i + y * from.step.y) is ∙ sym (slice_index from slice y small)

  itself : 4 * (4 * slice + y) ≡ place_at block_layout (4 * (4 * slice + y))
  itself = sym (place_itself (4 * (4 * slice + y)) (omega arith))

  below : 4 * slice + y < 4 ^ d / 4
  below = omega arith

  ends : (start + y * from.step.y + 4 ≤ n) × (4 * (4 * slice + y) + 4 ≤ m)
  ends = run_within e d 4 from n block_layout m fits (4 * slice + y) _ _ below there begins itself

pub index-first-requires : goal.index-first-requires
index-first-requires g c =
    let inside = place_of_whole c.args.d c.args.e.now c.requires.fits.four_at_most c.requires.fits.extent (4 * (4 * c.loop-slice.slice)) c.requires.all (omega arith) in
    omega (arith, ap (index_of c.args.from.now) c.indices.ensures, c.requires.fits.there _ (record { in_block = omega arith; inside = inside }))

pub loop-slice-init : goal.loop-slice-init
loop-slice-init g c = copied_none _ _ _ _ _ 0 (omega arith)

pub overflow_mul-y : goal.overflow_mul-y
overflow_mul-y g c =
    let start = c.index-first.ensures ∙ ap (index_of c.args.from.now) c.indices.ensures in
    let last = ends _ _ _ _ _ _ _ _ _ c.requires.slices c.requires.few c.requires.all c.requires.fits c.loop-slice-test.true c.loop-y-test.true start in
    omega (arith, last.0)

pub overflow_add-first : goal.overflow_add-first
overflow_add-first g c =
    let start = c.index-first.ensures ∙ ap (index_of c.args.from.now) c.indices.ensures in
    let last = ends _ _ _ _ _ _ _ _ _ c.requires.slices c.requires.few c.requires.all c.requires.fits c.loop-slice-test.true c.loop-y-test.true start in
    omega (arith, last.0)

pub copy_run-requires-clause-there : goal.copy_run-requires-clause-there
copy_run-requires-clause-there g c =
    let start = c.index-first.ensures ∙ ap (index_of c.args.from.now) c.indices.ensures in
    (ends _ _ _ _ _ _ _ _ _ c.requires.slices c.requires.few c.requires.all c.requires.fits c.loop-slice-test.true c.loop-y-test.true start).0

pub copy_run-requires-clause-room : goal.copy_run-requires-clause-room
copy_run-requires-clause-room g c =
    let start = c.index-first.ensures ∙ ap (index_of c.args.from.now) c.indices.ensures in
    let last = ends _ _ _ _ _ _ _ _ _ c.requires.slices c.requires.few c.requires.all c.requires.fits c.loop-slice-test.true c.loop-y-test.true start in
    omega (arith, last.1)

pub loop-y-preserved : goal.loop-y-preserved
loop-y-preserved g c =
    let row = 4 * c.loop-slice.slice + c.loop-y.y in
    let start = c.index-first.ensures ∙ ap (index_of c.args.from.now) c.indices.ensures in
    let here = there _ _ _ _ _ _ _ _ _ c.requires.slices c.requires.few c.requires.all c.requires.fits c.loop-slice-test.true c.loop-y-test.true start in
    let first = begins _ _ _ _ _ _ _ _ _ c.requires.slices c.requires.few c.requires.all c.requires.fits c.loop-slice-test.true c.loop-y-test.true start in
    let at = itself _ _ _ _ _ _ _ _ _ c.requires.slices c.requires.few c.requires.all c.requires.fits c.loop-slice-test.true c.loop-y-test.true start in
    let inside = below _ _ _ _ _ _ _ _ _ c.requires.slices c.requires.few c.requires.all c.requires.fits c.loop-slice-test.true c.loop-y-test.true start in
    copied_run _ _ _ _ _ _ _ c.requires.fits _ _ _ _ row _ _ _ inside (omega arith) here first at c.copy_run.ensures c.loop-y.invariant

pub loop-slice-preserved : goal.loop-slice-preserved
loop-slice-preserved g c = search rules

pub returns : goal.returns
returns g c =
    copied_all _ _ _ _ _ c.args.d (4 * (4 * c.loop-slice.slice)) _ c.requires.fits.four_at_most c.requires.fits.extent (omega arith) (omega arith) c.loop-slice.invariant
