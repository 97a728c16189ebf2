use Rattle.std.proofs.Common.{◌/◌, ◌^◌, ◌-◌, ap, ◌∙◌, arith}
use Rattle.zf_spec.specs.Numbers.{is_odd}
use Rattle.zf_planes.proofs.Lone.{pushed, pushed_entry, pairs-lt}
use Rattle.zf_planes.proofs.four_writing.pairs_of_byte.Goals as goal

pub returns-clause-digits : goal.returns-clause-digits
returns-clause-digits c = ap pushed c.from-four_apart.ensures ∙ pushed_entry c.args.byte c.spread_entry.result c.requires.byte c.spread_entry.ensures

pub returns-clause-small : goal.returns-clause-small
returns-clause-small c = omega (arith, returns-clause-digits c, pairs-lt 8 (λ i. is_odd (c.args.byte / 2 ^ (7 - i))))
