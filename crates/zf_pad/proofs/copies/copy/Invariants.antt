use Rattle.std.proofs.Common.{◌*◌, map}
use Rattle.zf_pad.proofs.Copying.{IsCopiedTo}
use Rattle.zf_pad.proofs.copies.copy.Given as goal

-- the runs so far are copied, all else is as it was
abbrev pub invariant-loop-run : goal.invariant-loop-run
invariant-loop-run g l =
    let value = g.T.Lane.value in
    IsCopiedTo l.e l.from l.to (map value l.source) (map value l.fn.target) (map value l.target) (l.len * l.run)
