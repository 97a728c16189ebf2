use Rattle.std.proofs.Common.{◌≡◌, ◌+◌, ◌≤◌, length}
use Rattle.zf_cached.specs.Runs.{lines_of}
use Rattle.zf_commands.{specs.Calls.{StaysReady}, proofs.Folding.{HasRun}}
use Rattle.zf_commands.proofs.lines.run_lines.Given as goal

abbrev pub invariant-loop-line : goal.invariant-loop-line
invariant-loop-line g l =
    HasRun (g.A.Subject.setting (g.A.Subject.kept l.fn.a)) (lines_of l.fn.script) (lines_of l.lines) (g.A.Subject.session l.fn.a) (g.A.Subject.session l.a)
    (g.O.Sink.contents l.fn.out) (g.O.Sink.contents l.out) l.refused
    × StaysReady g.A.Subject l.fn.a l.a
    × (l.refused + length l.lines ≤ length l.fn.script)
    × (g.O.Sink.faults l.out ≡ g.O.Sink.faults l.fn.out)

abbrev pub decreases-loop-line : goal.decreases-loop-line
decreases-loop-line g l = length l.lines
