-- The rows so far were restored.
use Rattle.std.proofs.Common.{◌≡◌, ◌+◌, ◌-◌, ◌/◌}
use Rattle.zf_pad.specs.Slabs.{rows_of, first_block}
use Rattle.zf_stream.{specs.Rooms.{CanRestoreAll, Stays}, specs.Restoring.{Restores}}
use Rattle.zf_dev.specs.Devices.{Reads, Writes}
use Rattle.zf_stream.proofs.restoring.restore_slabs.Given as goal

pub record SoFar (g : goal.Over) (l : goal.Live-loop-row g) : Type 0 where
  pub done : Restores l.h l.row g.S.Source l.fn.src l.src (g.O.Sink.contents l.fn.out) (g.O.Sink.contents l.out) l.fn.room.window l.room.window
  pub first : l.first ≡ first_block l.h.shape ((l.row + 3) / 4)
  pub room : CanRestoreAll g.T.Lane.width l.h g.S.Source l.src l.room
  pub stays : Stays l.fn.room l.room
  pub source : Reads g.S.Source ⊥ l.fn.src l.src
  pub sink : Writes g.O.Sink ⊥ l.fn.out l.out

abbrev pub invariant-loop-row : goal.invariant-loop-row
invariant-loop-row g l = SoFar g l

abbrev pub decreases-loop-row : goal.decreases-loop-row
decreases-loop-row g l = rows_of l.h.shape - l.row
