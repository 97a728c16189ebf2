use Rattle.std.proofs.Common.{arith}
use Rattle.zf_spec.proofs.Fields.{length-field}
use Rattle.zf_planes.{proofs.PlanesRead.{known_plane}, proofs.Coming.{one_comes}}
use Rattle.zf_planes.proofs.four_reading.read_one.Goals as goal

pub returns-then-next-cursor-clause-read : goal.returns-then-next-cursor-clause-read
returns-then-next-cursor-clause-read c =
    let window = c.args.cursor.now.window in
    let next = c.plane_at-next.result in
    let is = c.plane_at-next.ensures.read (omega (arith, c.if-next-cursor.true, window.small)) in
    let known = known_plane _ _ _ _ _ _ _ _ _ c.requires.in_plane window is c.if-next-cursor.true in
    let come = one_comes _ next.len (omega arith) c.requires.in_plane (length-field 4 next.digits) known.1 known.0 is.reached c.pass.ensures.taken in
    record {
      some = omega arith;
      few = omega arith;
      read = record { fits = omega arith; below = c.lanes_of_4.ensures.below; comes = rw c.lanes_of_4.ensures.digits come };
    }
