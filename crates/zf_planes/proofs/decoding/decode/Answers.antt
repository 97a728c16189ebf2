use Rattle.std.proofs.Common.{[]}
use Rattle.zf_planes.proofs.Unpacking.{arrays_as_words}
use Rattle.zf_planes.proofs.decoding.decode.Goals as goal

pub returns-clause-digits : goal.returns-clause-digits
returns-clause-digits c =
    rw (arrays_as_words _ (λ i below. c.see_arrays.ensures i [] below)) at c.read_planes-count.ensures.digits

pub returns-clause-clear : goal.returns-clause-clear
returns-clause-clear c =
    rw (arrays_as_words _ (λ i below. c.see_arrays.ensures i [] below)) at c.read_planes-count.ensures.clear
