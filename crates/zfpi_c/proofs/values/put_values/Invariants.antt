-- The values so far are those of the bytes so far.
use Rattle.std.proofs.Common.{◌≡◌, map, take}
use Rattle.zf_spec.specs.Stream.{values_from}
use Rattle.zfpi_c.proofs.values.put_values.Given as goal

abbrev pub invariant-loop-i : goal.invariant-loop-i
invariant-loop-i g l = map g.T.Lane.value (take l.i l.values) ≡ values_from g.T.Lane.width l.i l.bytes
