use Rattle.std.proofs.Common.{rules}
use Rattle.zf_spec.specs.Codes.{rev_of_planes}
use Rattle.zf_bits.proofs.Appending.{Appends-append}
use Rattle.zf_block.proofs.Zeros.{alike_fewer}
use Rattle.zf_block.proofs.reversible.ReversibleBlockCode.write_digits.Goals as goal

pub write_uncut_digits-requires-clause-zeros : goal.write_uncut_digits-requires-clause-zeros
write_uncut_digits-requires-clause-zeros g c = rw (← c.WIDTH.ensures) (search (rules, alike_fewer))

pub returns : goal.returns
unfolding rev_of_planes
returns g c = rw (← c.write_count-prec.ensures.value) (Appends-append c.write_count-prec.ensures.bits c.write_uncut_digits.ensures)
