use Rattle.std.{proofs.Common.{◌≡◌, ◌+◌, ◌*◌, ◌<◌, ap, ◌∙◌, arith}, specs.Prelude.{slice_index_or, slice_set}}
use Rattle.zf_base.specs.Positions.{axes}
use Rattle.zf_window.proofs.Places.{slice_small, IsWindowOf-slice}
use Rattle.zf_window.proofs.window.Window.slice.Goals as goal

pub overflow_mul-first : goal.overflow_mul-first
overflow_mul-first c =
    let w = c.self.inside in
    let on : c.args.axis < w.dims = omega arith in
    let there : c.args.at < slice_index_or (axes w.size) c.args.axis 0 = omega (arith, c.along.ensures, c.if-at-along.false) in
    let small = slice_small w.dims w.origin w.size w.step c.self.invariant c.args.axis c.args.at on there in
    rw c.along-3.ensures (omega (arith, small))

pub overflow_add-first : goal.overflow_add-first
overflow_add-first c =
    let w = c.self.inside in
    let on : c.args.axis < w.dims = omega arith in
    let there : c.args.at < slice_index_or (axes w.size) c.args.axis 0 = omega (arith, c.along.ensures, c.if-at-along.false) in
    let small = slice_small w.dims w.origin w.size w.step c.self.invariant c.args.axis c.args.at on there in
    rw (c.along-2.ensures, c.along-3.ensures) (omega (arith, small))

pub invariant_of-result : goal.invariant_of-result
invariant_of-result c =
    let w = c.self.inside in
    let on : c.args.axis < w.dims = omega arith in
    let there : c.args.at < slice_index_or (axes w.size) c.args.axis 0 = omega (arith, c.along.ensures, c.if-at-along.false) in
    let first : axes c.with_along.result ≡ slice_set (axes w.origin) c.args.axis (slice_index_or (axes w.origin) c.args.axis 0 + c.args.at * slice_index_or (axes w.step) c.args.axis 0) =
    c.with_along.ensures ∙ ap (slice_set (axes w.origin) c.args.axis) (ap (λ a. a + c.args.at * c.along-3.result) c.along-2.ensures ∙ ap (λ b. slice_index_or (axes w.origin) c.args.axis 0 + c.args.at * b) c.along-3.ensures) in
    IsWindowOf-slice w.dims w.origin w.size w.step c.self.invariant c.args.axis c.args.at on there c.with_along.result c.with_along-2.result first c.with_along-2.ensures
