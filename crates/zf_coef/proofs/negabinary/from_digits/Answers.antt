use Rattle.std.proofs.Common.{rules, ◌∙◌}
use Rattle.zf_spec.{proofs.Fields.{length-field}, proofs.Negabinary.{digits-value_of}}
use Rattle.zf_coef.proofs.Mask.{wrap-unmasked}
use Rattle.zf_coef.proofs.negabinary.from_digits.Goals as goal

pub returns-clause-value : goal.returns-clause-value
returns-clause-value g c = c.from_word.ensures.value ∙ wrap-unmasked g.T.Lane.width g.met.T.Lane.two_widths c.args.u

pub returns-clause-undone : goal.returns-clause-undone
returns-clause-undone g c = search (rules, returns-clause-value, digits-value_of, length-field)
