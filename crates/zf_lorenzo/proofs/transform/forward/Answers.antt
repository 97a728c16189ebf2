use Rattle.std.{proofs.Common.{rules, ◌∙◌}, proofs.lemmas.List.{length-map}}
use Rattle.zf_spec.{specs.Lorenzo.{lorenzo, signed_choose}, proofs.LorenzoInverse.{unlorenzo-lorenzo}}
use Rattle.zf_lorenzo.proofs.WeightedAxes.{along_axes-sums}
use Rattle.zf_lorenzo.proofs.transform.forward.Goals as goal

pub returns-clause-sums : goal.returns-clause-sums
unfolding lorenzo
returns-clause-sums g c = c.passes.ensures ∙ along_axes-sums g.T.Lane.width signed_choose c.args.d _ c.requires.block.0.0 (length-map c.args.block.now g.T.Lane.value ∙ c.requires.block.1)

pub returns-clause-undone : goal.returns-clause-undone
returns-clause-undone g c fits = search (rules, returns-clause-sums, unlorenzo-lorenzo, length-map)
