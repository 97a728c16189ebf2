use Rattle.zf_coef.proofs.Transposed.{all_four}
use Rattle.zf_coef.proofs.digits.from_planes.Goals as goal

pub returns-clause-digits : goal.returns-clause-digits
returns-clause-digits c =
    rw (all_four c.args.planes.now c.have_four_words.ensures) at c.digits_of_planes.ensures.digits
