use Rattle.zf_spec.specs.Codes.{rev_of_planes}
use Rattle.zf_bits.proofs.Appending.{Appends-append}
use Rattle.zf_block.proofs.reversible.ReversibleBlockCode.write_four.Goals as goal

pub returns : goal.returns
unfolding rev_of_planes
returns g c = rw (← c.write_count-prec.ensures.value) (Appends-append c.write_count-prec.ensures.bits c.write_uncut_four.ensures)
