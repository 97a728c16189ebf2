use Rattle.std.proofs.Common.{◌≡◌, ◌+◌, ◌*◌, ◌^◌, ◌≤◌}
use Rattle.zf_bound.specs.Bounds.{error_of}
use Rattle.zf_bound.proofs.bounding.error_from.Given as goal

abbrev pub invariant-loop-axis : goal.invariant-loop-axis
invariant-loop-axis l = record {
  so_far : l.error ≡ error_of l._axis l.k;
  most : l.error + 2 ≤ 4 ^ l._axis * (2 ^ 64 + 1);
}
