use Rattle.std.proofs.Common.{◌≡◌, ◌≤◌, true, false, length, refl, arith}
use Rattle.zf_bits.specs.Reader.{rest}
use Rattle.zf_block.{proofs.ReadCodes.{uncut_lacks, uncut_read}, proofs.Widths.{width_bounds}}
use Rattle.zf_block.proofs.uncut.read_uncut_four.Goals as goal

pub returns-in_err-read_four : goal.returns-in_err-read_four
returns-in_err-read_four g c =
    let few = c.in_err-read_four.ensures in
    let bounds = width_bounds g.T.Lane.width g.T.Lane.WIDTH g.met.T.Lane.two_widths g.met.T.Lane.bits_of_width in
    rw c.from_residual.ensures
    (uncut_lacks c.args.prec 4 c.args.reader.now (omega arith) (omega (arith, c.requires.planes, bounds.1)) (omega (arith, c.left-left.ensures.count)) c.read_four.new.reader (few.short.0 refl) few.unread, tt)

pub returns : goal.returns
returns g c =
    let bounds = width_bounds g.T.Lane.width g.T.Lane.WIDTH g.met.T.Lane.two_widths g.met.T.Lane.bits_of_width in
    let left : length (rest c.args.reader.now) ≤ 18446744073709551615 = omega (arith, c.left-left.ensures.count) in
    let read = c.in_ok-read_four.ensures in
    let uncut = uncut_read c.args.prec 4 c.args.reader.now (omega arith) (omega (arith, c.requires.planes, bounds.1)) left c.read_four.new.reader _ _ _ in
    rw (← c.WIDTH.ensures) (tt, uncut (λ few. let no : true ≡ false = read.short.1 few in cc) read.count read.reads read.digits)
