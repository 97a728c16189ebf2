use Rattle.std.proofs.Common.{sym, arith}
use Rattle.zf_spec.{specs.Numbers.{field}, proofs.Fields.{length-field}}
use Rattle.zf_planes.proofs.Budgets.{Remains-behind, Remains-same, Remains-part}
use Rattle.zf_planes.proofs.doubling.put_behind.Goals as goal

pub returns-then-part-more-le64 : goal.returns-then-part-more-le64
returns-then-part-more-le64 c =
    let part = c.args.part.now in
    let more = c.args.more in
    let start = Remains-behind c.args.out.now c.args.left part.len part.bits (field more.len more.bits) (omega (arith, c.requires.fits, length-field more.len more.bits)) in
    record {
      code = Remains-same start (sym c.join.ensures.bits);
      small = c.join.ensures.small c.requires.small_more;
      len = omega (arith, c.join.ensures.len, c.if-part-more-le64.true);
    }

pub returns : goal.returns
returns c =
    let part = c.args.part.now in
    let more = c.args.more in
    let start = Remains-behind c.args.out.now c.args.left part.len part.bits (field more.len more.bits) (omega (arith, c.requires.fits, length-field more.len more.bits)) in
    record {
      code = Remains-part part.len part.bits (field more.len more.bits) start c.write_part-left.ensures.bits c.write_part-left.ensures.left;
      small = c.requires.small_more;
      len = c.requires.more;
    }
