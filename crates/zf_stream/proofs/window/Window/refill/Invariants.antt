-- What was read so far was put behind what was left.
use Rattle.std.proofs.Common.{ℕ, suc, ◌-◌, ◌*◌, ◌<◌, Bool, cond, length}
use Rattle.zf_stream.specs.Windows.{left_of, KnowsEnd, Refills}
use Rattle.zf_dev.specs.Devices.{Reads}
use Rattle.zf_stream.proofs.window.Window.refill.Given as goal

pub record Filling (g : goal.Over) (l : goal.Live-loop-self g) : Type 0 where
  pub refills : Refills g.S.Source l.fn.src l.src l.fn.self l.self
  pub place : l.self.reader.at < 64
  pub ended : KnowsEnd g.S.Source l.self l.src
  pub source : Reads g.S.Source ⊥ l.fn.src l.src

abbrev pub invariant-loop-self : goal.invariant-loop-self
invariant-loop-self g l = Filling g l

-- nothing is read behind the end; before it, the room that is left shrinks
abbrev pub room_left : Bool → ℕ → ℕ
room_left ended room = cond ended 0 (suc room)

abbrev pub decreases-loop-self : goal.decreases-loop-self
decreases-loop-self g l = room_left l.self.ended (64 * l.self.room - length (left_of l.self))
