use Rattle.std.{proofs.Common.{rules, ◌<◌, ◌^◌, refl, sym, ap, subst, ◌∙◌, arith}, proofs.lemmas.Int.{ints}}
use Rattle.zf_spec.specs.Grid.{product}
use Rattle.zf_window.{specs.Positions.{Walking, raster_at}, proofs.Raster.{product_window}}
use Rattle.zf_window.{specs.Bounds.{IsUpTo}, proofs.Bounds.{value_up_to}}
use Rattle.zf_view.specs.Sums.{touched_to, sum_found}
use Rattle.zf_view.proofs.Sums.{more, more_fits, more_is, touched_more, found_more}
use Rattle.zf_view.proofs.sum.sum_of.Goals as goal

pub count-number-end-requires : goal.count-number-end-requires
count-number-end-requires g c =
    omega (arith, product_window (g.A.Reads.shape (g.A.Reads.kept c.args.array.now)) c.args.window c.requires, ap product c.sizes.ensures, c.values-values.ensures.value, c.values-values.ensures.bound)

pub loop-number-init : goal.loop-number-init
unfolding touched_to sum_found
loop-number-init g c = record { kept = refl; touched = refl; found = refl; small = (omega (arith, ints), omega (arith, ints)); walk = c.new-walk.ensures }

pub overflow_add-sum : goal.overflow_add-sum
overflow_add-sum g c = search (rules, more_fits)

pub loop-number-preserved : goal.loop-number-preserved
loop-number-preserved g c =
    let inv = c.loop-number.invariant in
    let a = c.args.array.now in
    let k = g.A.Reads.kept a in
    let w = c.args.window in
    let n = c.loop-number.number in
    let x = c.to_wide-sum.result in
    let v = g.T.Lane.value c.value-found.result in
    let told = c.value-found.ensures in
    let few : n < 2 ^ 27 =
    omega (arith, product_window (g.A.Reads.shape k) w c.requires, ap product c.sizes.ensures, c.values-values.ensures.value, c.values-values.ensures.bound, c.count-number-end.ensures.value, c.loop-number-test.true) in
    let one = subst (IsUpTo (2 ^ 63)) (sym c.to_wide-sum.ensures.value) (value_up_to g.T.Lane.width g.met.T.Lane.two_widths v (g.met.T.Lane.in_range_fits v) c.to_wide-sum.ensures.operand) in
    let is = more_is c.loop-number.sum-bits x n few inv.small one in
    let at = c.step.ensures.position ∙ ap (λ (x : Walking). raster_at x.window x.next) inv.walk in search (rules, touched_more, found_more, more)
