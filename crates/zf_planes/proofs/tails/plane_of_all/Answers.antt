use Rattle.zf_planes.{proofs.Digits.{masked}, proofs.WordPlanes.{read_all}}
use Rattle.zf_planes.proofs.tails.plane_of_all.Goals as goal

pub returns-clause-read : goal.returns-clause-read
returns-clause-read c = rw (masked c.args.bits c.args.size c.requires.size.most) (read_all c.args.size c.args.bits)
