use Rattle.zf_coef.proofs.Transposed.{all_four}
use Rattle.zf_coef.proofs.planes.to_planes.Goals as goal

pub returns-clause-digits : goal.returns-clause-digits
returns-clause-digits c =
    rw (all_four c.planes_of_digits.new.planes c.have_four_words.ensures) at c.planes_of_digits.ensures.digits

pub returns-clause-clear : goal.returns-clause-clear
returns-clause-clear c =
    rw (all_four c.planes_of_digits.new.planes c.have_four_words.ensures) at c.planes_of_digits.ensures.clear
