use Rattle.std.proofs.Common.{arith}
use Rattle.std.proofs.lemmas.Nat.{shl_whole}
use Rattle.zf_planes.proofs.ShortPlanes.{short_of_entry}
use Rattle.zf_planes.proofs.word_writing.short_plane.Goals as goal

pub returns : goal.returns
returns c =
    let tail = c.tail_code-tail.result in
    let entry = c.tail_code-tail.ensures in
    let whole = shl_whole tail.more tail.len c.args.n 64 (omega (arith, entry.bits)) (omega (arith, c.requires.few, entry.few)) in
    rw whole (short_of_entry c.args.n c.args.digits tail.more tail.len tail.reach entry c.requires.few entry.few)
