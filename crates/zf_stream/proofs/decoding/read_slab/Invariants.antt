-- The blocks so far are those of the codes so far.
use Rattle.std.proofs.Common.{◌≡◌, ◌-◌, ◌≤◌, true, ℕ, List, map}
use Rattle.zf_spec.specs.Grid.{blocks}
use Rattle.zf_pad.specs.Stored.{HasWholeBlocks}
use Rattle.zf_stream.{specs.Windows.{left_of, KnowsEnd, Goes}, specs.Restoring.{stream_from}}
use Rattle.zf_stream.{specs.Rooms.{Stays}, proofs.Runs.{HasRead}}
use Rattle.zf_dev.specs.Devices.{Reads}
use Rattle.zf_stream.proofs.decoding.read_slab.Given as goal

pub record Decoded (g : goal.Over) (l : goal.Live-loop-b g) : Type 0 where
  pub within : l.b ≤ blocks l.part.shape
  pub look : l.look ≡ true → HasWholeBlocks l.part.shape
  pub bytes : List ℕ
  pub goes : Goes g.S.Source l.fn.src l.src l.fn.room.window l.room.window bytes
  pub read : HasRead l.part l.b (stream_from l.fn.room.window bytes) (left_of l.room.window) (map g.T.Lane.value l.room.stored.items)
  pub stays : Stays l.fn.room l.room
  pub ended : KnowsEnd g.S.Source l.room.window l.src
  pub source : Reads g.S.Source ⊥ l.fn.src l.src

abbrev pub invariant-loop-b : goal.invariant-loop-b
invariant-loop-b g l = Decoded g l

abbrev pub decreases-loop-b : goal.decreases-loop-b
decreases-loop-b g l = blocks l.part.shape - l.b
