-- The bytes of the values so far were written.
use Rattle.std.proofs.Common.{◌≤◌, ◌-◌, map, take}
use Rattle.zf_spec.{specs.Grid.{product}, specs.Stream.{raw}}
use Rattle.zf_pad.specs.Stored.{raster_of, IsFirst}
use Rattle.zf_dev.{specs.Sink.{Appends}, specs.Devices.{Writes}}
use Rattle.zf_stream.proofs.writing.write_stored.Given as goal

pub record Written (g : goal.Over) (l : goal.Live-loop-at g) : Type 0 where
  pub within : l.at ≤ product l.shape
  pub first : IsFirst l.shape l.at
  pub written : Appends (g.O.Sink.contents l.fn.out) (g.O.Sink.contents l.out) (raw g.T.Lane.width (take l.at (raster_of l.shape (map g.T.Lane.value l.stored))))
  pub sink : Writes g.O.Sink ⊥ l.fn.out l.out

abbrev pub invariant-loop-at : goal.invariant-loop-at
invariant-loop-at g l = Written g l

abbrev pub decreases-loop-at : goal.decreases-loop-at
decreases-loop-at g l = product l.shape - l.at
