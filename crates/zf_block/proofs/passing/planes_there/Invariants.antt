use Rattle.std.proofs.Common.{◌≤◌}
use Rattle.zf_block.specs.Passing.{AlongPlanes}
use Rattle.zf_block.proofs.passing.planes_there.Given as goal

abbrev pub invariant-loop-i : goal.invariant-loop-i
invariant-loop-i l = record {
  along : AlongPlanes l.most l.size l.i l.above l.fn.ahead l.ahead;
  in_plane : l.above ≤ l.size;
}
