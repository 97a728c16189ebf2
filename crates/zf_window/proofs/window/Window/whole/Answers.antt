use Rattle.std.proofs.Common.{length, sym, subst}
use Rattle.zf_base.specs.Positions.{with_unused}
use Rattle.zf_cached.{specs.Windows.{LiesIn}, proofs.Windows.{LiesIn-whole}}
use Rattle.zf_window.specs.WindowFields.{window_of}
use Rattle.zf_window.proofs.Parts.{IsWindowOf-lies, window_of-whole, AreUnused-whole}
use Rattle.zf_window.proofs.window.Window.whole.Goals as goal

pub invariant_of-result : goal.invariant_of-result
invariant_of-result c =
    let ns = c.args.shape.now in
    let shape = c.dims.ensures.shape in
    let lies : LiesIn ns (window_of (length ns) (record { x = 0; y = 0; z = 0; w = 0 }) (with_unused 1 ns) (record { x = 1; y = 1; z = 1; w = 1 })) = subst (LiesIn ns) (sym (window_of-whole ns shape)) (LiesIn-whole ns shape.not_zero) in
    rw (c.dims.ensures.value, c.sizes.ensures) (IsWindowOf-lies ns (record { x = 0; y = 0; z = 0; w = 0 }) (with_unused 1 ns) (record { x = 1; y = 1; z = 1; w = 1 }) shape (AreUnused-whole ns shape) lies)

pub returns-clause-window : goal.returns-clause-window
returns-clause-window c = rw (c.dims.ensures.value, c.sizes.ensures) (window_of-whole c.args.shape.now c.dims.ensures.shape)

pub returns-clause-inside : goal.returns-clause-inside
returns-clause-inside c =
    let ns = c.args.shape.now in
    rw (c.dims.ensures.value, c.sizes.ensures) (subst (LiesIn ns) (sym (window_of-whole ns c.dims.ensures.shape)) (LiesIn-whole ns c.dims.ensures.shape.not_zero))
