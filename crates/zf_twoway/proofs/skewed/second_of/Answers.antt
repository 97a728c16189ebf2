use Rattle.std.{proofs.Common.{◌/◌, ◌≤◌, arith}, proofs.lemmas.Nat.{xor_lt}, proofs.Math.Nat.{div-le_self}}
use Rattle.std.specs.Int.Bits.{bit_xor}
use Rattle.zf_twoway.proofs.skewed.second_of.Goals as goal

pub returns : goal.returns
returns c =
    let less : c.args.b / c.args.lines ≤ c.args.b = div-le_self c.args.b c.args.lines in
    c.requires.mask (bit_xor c.args.b (c.args.b / c.args.lines)) (xor_lt 64 c.args.b (c.args.b / c.args.lines) (omega (arith, c.ranges.b.fits)) (omega (arith, c.ranges.b.fits, less)))
