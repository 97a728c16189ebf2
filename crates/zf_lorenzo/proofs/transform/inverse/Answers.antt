use Rattle.std.{proofs.Common.{◌∙◌}, proofs.lemmas.List.{length-map}}
use Rattle.zf_spec.specs.Lorenzo.{unlorenzo, plain_choose}
use Rattle.zf_lorenzo.proofs.WeightedAxes.{along_axes-sums}
use Rattle.zf_lorenzo.proofs.transform.inverse.Goals as goal

pub returns : goal.returns
unfolding unlorenzo
returns g c = c.passes.ensures ∙ along_axes-sums g.T.Lane.width plain_choose c.args.d _ c.requires.block.0.0 (length-map c.args.block.now g.T.Lane.value ∙ c.requires.block.1)
