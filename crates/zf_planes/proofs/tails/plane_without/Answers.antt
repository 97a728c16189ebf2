use Rattle.std.proofs.lemmas.Nat.{one_shl}
use Rattle.zf_planes.proofs.WordPlanes.{read_without}
use Rattle.zf_planes.proofs.tails.plane_without.Goals as goal

pub returns-clause-read : goal.returns-clause-read
returns-clause-read c = rw (one_shl c.args.n 64 c.requires.in_word) (read_without c.args.n c.args.size c.args.bits c.requires.in_plane c.requires.none)
