-- The sizes so far are written, each in its share of the room.
use Rattle.std.{proofs.Common.{◌≡◌, ◌+◌, ◌*◌, ◌/◌, ◌-◌, length, take}, specs.List.{flat_map}}
use Rattle.zf_spec.specs.Numbers.{field}
use Rattle.zf_bits.specs.Writer.{Appends}
use Rattle.zf_header.proofs.writing.write_sizes.Given as goal

abbrev pub invariant-loop-axis : goal.invariant-loop-axis
invariant-loop-axis l = record {
  bits : Appends l.initial.out l.out (flat_map (λ n. field (48 / length l.shape) (n - 1)) (take l.axis l.shape));
  room : l.out.room + l.axis * (48 / length l.shape) ≡ l.initial.out.room;
}
