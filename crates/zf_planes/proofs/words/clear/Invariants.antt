-- The first planes have no bit.
use Rattle.std.proofs.Common.{◌≡◌, map, take, replicate}
use Rattle.zf_planes.proofs.words.clear.Given as goal

abbrev pub invariant-loop-plane : goal.invariant-loop-plane
invariant-loop-plane g l = take l.plane-index (map g.P.Plane.words l.planes) ≡ replicate l.plane-index (replicate g.P.Plane.word_count 0)
