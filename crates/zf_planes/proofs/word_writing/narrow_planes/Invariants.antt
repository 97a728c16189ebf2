-- The code of the planes before the i-th is the bits that were put together.
use Rattle.std.proofs.Common.{map, ◌-◌, take}
use Rattle.zf_spec.specs.HeldPlanes.{planes_held}
use Rattle.zf_planes.specs.WordPlanes.{AreBegun}
use Rattle.zf_planes.proofs.word_writing.narrow_planes.Given as goal

abbrev pub invariant-loop-i : goal.invariant-loop-i
invariant-loop-i g l =
    AreBegun l.from l.prec (take l.prec (planes_held l.size (map g.P.Plane.words l.planes))) l.part.len l.part.bits l.above l.i

abbrev pub decreases-loop-i : goal.decreases-loop-i
decreases-loop-i g l = l.prec - l.i

abbrev pub invariant-loop-digits : goal.invariant-loop-digits
invariant-loop-digits g l =
    AreBegun l.from l.prec (take l.prec (planes_held l.size (map g.P.Plane.words l.planes))) l.part.len l.part.bits l.above l.i

abbrev pub decreases-loop-digits : goal.decreases-loop-digits
decreases-loop-digits g l = l.prec - l.i
