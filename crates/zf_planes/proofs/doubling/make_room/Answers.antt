use Rattle.std.proofs.Common.{[], sym, arith, append-nil}
use Rattle.zf_spec.{specs.Numbers.{field}, proofs.Fields.{length-field}}
use Rattle.zf_planes.proofs.Budgets.{Remains-start, Remains-same, Remains-part}
use Rattle.zf_planes.proofs.doubling.make_room.Goals as goal

pub returns-then-part-more-clause-bits : goal.returns-then-part-more-clause-bits
returns-then-part-more-clause-bits c =
    let part = c.args.part.now in
    record { code = Remains-start c.args.out.now c.args.left (field part.len part.bits) (omega (arith, c.requires.fits, length-field part.len part.bits)); small = c.requires.small; len = c.requires.in_word }

pub returns-clause-bits : goal.returns-clause-bits
returns-clause-bits c =
    let part = c.args.part.now in
    let bits = field part.len part.bits in
    let start = Remains-start c.args.out.now c.args.left bits (omega (arith, c.requires.fits, length-field part.len part.bits)) in
    record {
      code = Remains-part part.len part.bits [] (Remains-same start (sym (append-nil bits))) c.write_part-left.ensures.bits c.write_part-left.ensures.left;
      small = omega arith;
      len = omega arith;
    }
