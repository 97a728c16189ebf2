use Rattle.zf_lines.specs.Rows.{HasSize}
use Rattle.zf_array_tests.proofs.lines.compare.Given as goal

abbrev pub invariant-loop-step : goal.invariant-loop-step
invariant-loop-step l = HasSize l.lines.blocks l.count l.len
