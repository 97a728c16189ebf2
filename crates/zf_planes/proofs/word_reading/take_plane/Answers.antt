use Rattle.std.proofs.Common.{arith}
use Rattle.zf_spec.proofs.Fields.{length-field}
use Rattle.zf_planes.{proofs.Gathering.{written}, proofs.PlanesRead.{known_plane}, proofs.Coming.{one_comes}}
use Rattle.zf_planes.proofs.word_reading.take_plane.Goals as goal

pub returns : goal.returns
returns g c =
    let next = c.args.next in
    let known = known_plane _ _ _ _ _ _ _ _ _ c.requires.in_plane c.args.cursor.now.window c.requires.read c.requires.there in
    let here = written _ _ _ _ _ (omega arith) (omega (arith, c.requires.size.most, g.met.P.Plane.some)) g.met.P.Plane.some c.zero-plane.ensures c.set_word.ensures c.requires.read.small in
    let come = one_comes _ next.len c.requires.size.some c.requires.in_plane (length-field c.args.size next.digits) known.1 known.0 c.requires.read.reached c.pass.ensures.taken in
    record { read = record { comes = rw here.0 come; clear = here.1 } }
