-- The values so far were read.
use Rattle.std.proofs.Common.{◌≤◌, ◌-◌, map, length, take}
use Rattle.zf_dev.{specs.Source.{Gives}, specs.Devices.{Reads}}
use Rattle.zf_stream.specs.ReadRaw.{ReadsValues}
use Rattle.zf_stream.proofs.reading.read_values.Given as goal

pub record SoFar (g : goal.Over) (l : goal.Live-loop-at g) : Type 0 where
  pub within : l.at ≤ length l.values
  pub done : ReadsValues g.T.Lane.width l.at (g.S.Source.contents l.fn.src) (g.S.Source.contents l.src) (Gives (g.S.Source.gave l.fn.src) (g.S.Source.gave l.src)) (map g.T.Lane.value (take l.at l.values))
  pub source : Reads g.S.Source ⊥ l.fn.src l.src

abbrev pub invariant-loop-at : goal.invariant-loop-at
invariant-loop-at g l = SoFar g l

abbrev pub decreases-loop-at : goal.decreases-loop-at
decreases-loop-at g l = length l.values - l.at
