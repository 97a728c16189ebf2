use Rattle.std.proofs.Common.{◌≡◌, ◌≤◌}
use Rattle.zfpi_uses.proofs.views.zeros_and_value.Given as goal

abbrev pub invariant-loop-value : goal.invariant-loop-value
invariant-loop-value l = record {
  same_array : l.value-iterator.array.ghost_name ≡ l.initial.value-iterator.array.ghost_name;
  window : l.value-iterator.walk.window ≡ l.fn.window;
  few : l.zeros ≤ l.value-iterator.walk.next;
  header : l.value-iterator.array.now.header ≡ l.fn.array.header;
}
