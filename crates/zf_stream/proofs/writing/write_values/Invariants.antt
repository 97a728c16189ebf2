-- The bytes of the values so far were written.
use Rattle.std.proofs.Common.{◌≤◌, ◌-◌, map, length, take}
use Rattle.zf_spec.specs.Stream.{raw}
use Rattle.zf_dev.{specs.Sink.{Appends}, specs.Devices.{Writes}}
use Rattle.zf_stream.proofs.writing.write_values.Given as goal

pub record Written (g : goal.Over) (l : goal.Live-loop-at g) : Type 0 where
  pub within : l.at ≤ length l.values
  pub written : Appends (g.O.Sink.contents l.fn.out) (g.O.Sink.contents l.out) (raw g.T.Lane.width (map g.T.Lane.value (take l.at l.values)))
  pub sink : Writes g.O.Sink ⊥ l.fn.out l.out

abbrev pub invariant-loop-at : goal.invariant-loop-at
invariant-loop-at g l = Written g l

abbrev pub decreases-loop-at : goal.decreases-loop-at
decreases-loop-at g l = length l.values - l.at
