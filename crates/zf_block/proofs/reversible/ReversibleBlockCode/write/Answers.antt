use Rattle.std.{proofs.Common.{rules}, proofs.Math.Nat.{mul-le-mul_left}}
use Rattle.zf_spec.specs.Codes.{rev_of_planes}
use Rattle.zf_bits.proofs.Appending.{Appends-append, Appends-same}
use Rattle.zf_block.proofs.reversible.ReversibleBlockCode.write.Goals as goal

pub write_uncut-requires-clause-fits : goal.write_uncut-requires-clause-fits
write_uncut-requires-clause-fits g c = search (rules, mul-le-mul_left)

pub returns : goal.returns
unfolding rev_of_planes
returns g c =
    Appends-same (Appends-append c.write_count-prec.ensures.bits c.write_uncut.ensures)
    (cc (c.write_count-prec.ensures.value, c.requires.digits))
