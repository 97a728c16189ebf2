use Rattle.std.proofs.Common.{◌≡◌, ◌+◌, ◌*◌, ◌≤◌, ◌++◌, take, map, length, decimal}
use Rattle.std.specs.List.{join_with_byte}
use Rattle.zf_program.proofs.commands.line.push_shape.Given as goal

-- the sizes so far are appended
abbrev pub invariant-loop-axis : goal.invariant-loop-axis
invariant-loop-axis l = record {
  text : l.line.bytes ≡ l.fn.line.bytes ++ join_with_byte 120 (map decimal (take l.axis l.shape));
  len : length l.line.bytes ≤ length l.fn.line.bytes + 21 * l.axis;
}
