-- The bytes so far were put.
use Rattle.std.proofs.Common.{◌≡◌, ◌+◌, ◌++◌, take, drop}
use Rattle.zf_pad.proofs.raw.put_value.Given as goal

abbrev pub invariant-loop-k : goal.invariant-loop-k
invariant-loop-k g l = l.bytes ≡ take l.start l.fn.bytes ++ (take l.k l.all ++ drop (l.start + l.k) l.fn.bytes)
