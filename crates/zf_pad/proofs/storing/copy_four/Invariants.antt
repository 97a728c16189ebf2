use Rattle.std.proofs.Common.{◌≡◌, ◌+◌, ◌*◌, map}
use Rattle.zf_pad.{specs.Stored.{values_in, StayBefore}, proofs.FourLines.{AreRowsCopied}}
use Rattle.zf_pad.proofs.storing.copy_four.Given as goal

-- the rows so far of each line were copied, and what stands before them is as it was
pub record Copied (g : goal.Over) (l : goal.Live-loop-b g) : Type 0 where
  pub at : l.at ≡ l.from + l.b * l.step
  pub before : StayBefore l.to (values_in g.T.Lane.width l.fn.piece) (values_in g.T.Lane.width l.piece)
  pub lines : AreRowsCopied l.from l.step l.to l.n (map g.T.Lane.value l.stored)
      (values_in g.T.Lane.width l.piece) (4 * l.b)

abbrev pub invariant-loop-b : goal.invariant-loop-b
invariant-loop-b g l = Copied g l
