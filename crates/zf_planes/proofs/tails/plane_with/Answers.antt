use Rattle.std.{proofs.Common.{arith}, proofs.lemmas.Nat.{one_shl}}
use Rattle.zf_planes.proofs.WordPlanes.{read_with}
use Rattle.zf_planes.proofs.tails.plane_with.Goals as goal

pub returns-clause-read : goal.returns-clause-read
returns-clause-read c known one =
    let tail = c.tail_entry-tail.result in
    rw (one_shl c.args.n 64 (omega (arith, c.requires.in_plane, c.requires.size))) (read_with c.args.n c.args.size c.args.bits tail.digits tail.len tail.reach c.requires.in_plane c.requires.size one (c.tail_entry-tail.ensures.tail (omega (arith, known))))
