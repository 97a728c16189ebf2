use Rattle.std.{proofs.Common.{arith}, proofs.lemmas.Nat.{one_shl}}
use Rattle.zf_planes.proofs.WordPlanes.{read_two}
use Rattle.zf_planes.proofs.tails.plane_with_two.Goals as goal

pub returns-clause-read : goal.returns-clause-read
returns-clause-read c known one =
    let run = c.tail_entry-run.result in
    let next = c.tail_entry-next.result in
    rw (one_shl c.args.n 64 (omega (arith, c.requires.in_plane, c.requires.size)))
    (read_two c.args.n c.args.size c.args.bits run.digits run.len run.reach next.digits next.len next.reach c.requires.in_plane c.requires.size one (c.tail_entry-run.ensures.begun c.if-run-le64.false) c.tail_entry-next.ensures.some (c.tail_entry-next.ensures.tail (omega (arith, known))))
