use Rattle.std.proofs.Common.{◌≡◌}
use Rattle.zf_lines.specs.Places.{IsFilledTo}
use Rattle.zf_lines.proofs.lines.fill.Given as goal

abbrev pub invariant-loop-i : goal.invariant-loop-i
invariant-loop-i g l = (l.base.ptr ≡ l.cells.at) × (l.cells.at ≡ l.fn.cells.at) × IsFilledTo l.zero l.fn.cells.slots l.cells.slots l.i
