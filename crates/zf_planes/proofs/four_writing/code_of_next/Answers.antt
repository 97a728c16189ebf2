use Rattle.std.proofs.Common.{refl, arith}
use Rattle.zf_planes.proofs.Strings.{last_of_string, pair_of_string}
use Rattle.zf_planes.proofs.four_writing.code_of_next.Goals as goal

pub returns-then-planes-gt1 : goal.returns-then-planes-gt1
returns-then-planes-gt1 c = pair_of_string _ _ _ _ _ _ c.if-planes-gt1.true c.code_of_two.ensures

pub overflow_sub-len : goal.overflow_sub-len
overflow_sub-len c = omega (arith, (last_of_string c.args.n 1 c.args.string _ _ _ c.requires.in_plane refl c.code_of_two-two.ensures).0)

pub returns : goal.returns
returns c = rw c.min-zeros.ensures (last_of_string _ c.args.planes _ _ _ _ c.requires.in_plane (omega arith) c.code_of_two-two.ensures).1
