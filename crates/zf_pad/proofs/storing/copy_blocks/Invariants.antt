use Rattle.std.proofs.Common.{◌≡◌, ◌+◌, ◌*◌, map}
use Rattle.zf_pad.{specs.Stored.{values_in, StayBefore}, proofs.FourLines.{IsLineCopied}}
use Rattle.zf_pad.proofs.storing.copy_blocks.Given as goal

-- the rows so far were copied, and what stands before them is as it was
pub record Copied (g : goal.Over) (l : goal.Live-loop-b g) : Type 0 where
  pub at : l.at ≡ l.from + l.b * l.step
  pub before : StayBefore l.to (values_in g.T.Lane.width l.fn.piece) (values_in g.T.Lane.width l.piece)
  pub rows : IsLineCopied l.from l.step l.to (map g.T.Lane.value l.stored) (values_in g.T.Lane.width l.piece) l.b

abbrev pub invariant-loop-b : goal.invariant-loop-b
invariant-loop-b g l = Copied g l
