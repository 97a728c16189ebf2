-- The rows so far were read, and their codes are on their way.
use Rattle.std.proofs.Common.{◌≡◌, ◌-◌, ◌<◌, length}
use Rattle.zf_pad.specs.Slabs.{rows_of}
use Rattle.zf_dev.{specs.Source.{Gives}, specs.Devices.{Reads, Writes}}
use Rattle.zf_stream.{specs.Rows.{rows_len, Compresses}, specs.Rooms.{IsRoomOf, Keeps}}
use Rattle.zf_stream.proofs.compressing.write_slabs.Given as goal

pub record SoFar (g : goal.Over) (l : goal.Live-loop-row g) : Type 0 where
  pub done : Compresses l.h l.row (g.S.Source.contents l.fn.src) (g.S.Source.contents l.src) (Gives (g.S.Source.gave l.fn.src) (g.S.Source.gave l.src)) (g.O.Sink.contents l.fn.out) (g.O.Sink.contents l.out) l.fn.room.codes.bits l.room.codes.bits
  pub taken : l.taken ≡ rows_len l.h l.row
  pub few : length l.room.codes.bits < l.room.most
  pub room : IsRoomOf g.T.Lane.width l.h (length l.values) l.room
  pub keeps : Keeps l.fn.room l.room
  pub source : Reads g.S.Source ⊥ l.fn.src l.src
  pub sink : Writes g.O.Sink ⊥ l.fn.out l.out

abbrev pub invariant-loop-row : goal.invariant-loop-row
invariant-loop-row g l = SoFar g l

abbrev pub decreases-loop-row : goal.decreases-loop-row
decreases-loop-row g l = rows_of l.h.shape - l.row
