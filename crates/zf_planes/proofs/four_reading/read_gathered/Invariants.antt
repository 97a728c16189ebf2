-- The planes so far are gathered, and the others are to come.
use Rattle.std.proofs.Common.{◌≤◌, ◌+◌, ◌-◌}
use Rattle.zf_planes.{specs.Moves.{state}, proofs.LanesAhead.{FoursRead}}
use Rattle.zf_planes.proofs.four_reading.read_gathered.Given as goal

abbrev pub invariant-loop-digits : goal.invariant-loop-digits
invariant-loop-digits l = record { read : FoursRead l.fn.budget l.prec l.fn.reader (state l.above l.cursor) l.digits.words l.digits.done l.digits.lanes l.digits.held }

abbrev pub decreases-loop-digits : goal.decreases-loop-digits
decreases-loop-digits l = l.prec - (l.digits.done + l.digits.held)

-- the same of four planes at a time, of which there are no more than before
abbrev pub invariant-loop-cursor : goal.invariant-loop-cursor
invariant-loop-cursor l = record {
  read : FoursRead l.fn.budget l.prec l.fn.reader (state l.above l.cursor) l.digits.words l.digits.done l.digits.lanes l.digits.held;
  more : l.initial.digits.done + l.initial.digits.held ≤ l.digits.done + l.digits.held;
}

abbrev pub decreases-loop-cursor : goal.decreases-loop-cursor
decreases-loop-cursor l = l.prec - (l.digits.done + l.digits.held)
