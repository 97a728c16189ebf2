-- The bytes of the words so far.
use Rattle.std.proofs.Common.{◌≡◌, ◌*◌, take}
use Rattle.zf_stream.specs.Flows.{bytes_in}
use Rattle.zf_stream.proofs.bytes.put_bytes.Given as goal

abbrev pub invariant-loop-i : goal.invariant-loop-i
invariant-loop-i l = take (8 * l.i) l.bytes ≡ bytes_in (take l.i l.words)
