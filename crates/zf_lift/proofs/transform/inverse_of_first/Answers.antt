use Rattle.std.proofs.Common.{replicate, sym, ap, ◌∙◌}
use Rattle.zf_spec.{specs.Lift.{unlift_line}, proofs.Wrapping.{zero_fits}}
use Rattle.zf_axes.proofs.FirstAlone.{passes_back-first}
use Rattle.zf_lift.proofs.FirstAlone.{unlift_line-first}
use Rattle.zf_lift.proofs.transform.inverse_of_first.Goals as goal

pub returns : goal.returns
returns g c =
    let w = g.T.Lane.width in
    let v = g.T.Lane.value c.args.first in
    let fits = (g.met.T.Lane.in_range_fits v).0 c.fill.ensures.in_type in
    c.fill.ensures.values
    ∙ ap (λ n. replicate n v) c.requires.block.1
    ∙ sym (passes_back-first (unlift_line w) v c.args.d (unlift_line-first w v fits) (unlift_line-first w _ (zero_fits w)))
