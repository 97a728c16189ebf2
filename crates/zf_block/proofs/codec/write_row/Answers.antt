use Rattle.zf_block.proofs.codec.write_row.Goals as goal

pub returns : goal.returns
returns g c = rw (← c.forward.ensures, ← c.to_digits.ensures) c.write_four.ensures
