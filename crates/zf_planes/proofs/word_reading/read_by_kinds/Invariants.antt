-- The top i planes are read, the others are zero, and those below them are to come.
use Rattle.std.proofs.Common.{◌≡◌, ◌⊎◌, ◌-◌, ◌≤◌, length, map}
use Rattle.zf_planes.{specs.Moves.{state}, proofs.PlanesRead.{AreRead}}
use Rattle.zf_planes.proofs.word_reading.read_by_kinds.Given as goal

abbrev pub invariant-loop-i : goal.invariant-loop-i
invariant-loop-i g l = record {
  read : AreRead l.fn.budget l.prec l.size l.fn.reader (state l.above l.cursor) l.i (map g.P.Plane.words l.planes);
  long : length l.planes ≡ length l.fn.planes;
}

abbrev pub decreases-loop-i : goal.decreases-loop-i
decreases-loop-i g l = l.prec - l.i

abbrev pub invariant-loop-i-2 : goal.invariant-loop-i-2
invariant-loop-i-2 g l = record {
  read : AreRead l.fn.budget l.prec l.size l.fn.reader (state l.above l.cursor) l.i (map g.P.Plane.words l.planes);
  long : length l.planes ≡ length l.fn.planes;
  all : (l.above ≡ l.size) ⊎ ((l.cursor.left ≡ 0) ⊎ (l.prec ≤ l.i));
}

abbrev pub decreases-loop-i-2 : goal.decreases-loop-i-2
decreases-loop-i-2 g l = l.prec - l.i
