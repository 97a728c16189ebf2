use Rattle.std.proofs.Common.{sym, ap, ◌∙◌}
use Rattle.zf_spec.specs.Numbers.{field}
use Rattle.zf_bits.proofs.Appending.{Appends-same}
use Rattle.zf_planes.proofs.Gathering.{take_field}
use Rattle.zf_planes.proofs.doubling.write_part.Goals as goal

pub returns-clause-bits : goal.returns-clause-bits
returns-clause-bits c = Appends-same c.write_reserved.ensures.bits (ap (λ n. field n c.args.part.bits) c.min-count.ensures ∙ sym (take_field c.args.left c.args.part.len c.args.part.bits))
