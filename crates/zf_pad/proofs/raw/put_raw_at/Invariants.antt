-- The values so far were put.
use Rattle.std.proofs.Common.{map}
use Rattle.zf_pad.specs.{Copies.{IsRunCopied}, Stored.{values_in}}
use Rattle.zf_pad.proofs.raw.put_raw_at.Given as goal

abbrev pub invariant-loop-k : goal.invariant-loop-k
invariant-loop-k g l =
    let w = g.T.Lane.width in
    IsRunCopied l.k l.from l.to (map g.T.Lane.value l.values) (values_in w l.fn.bytes) (values_in w l.bytes)
