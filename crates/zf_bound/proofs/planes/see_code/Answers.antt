use Rattle.std.proofs.Common.{ap, length, ◌*◌, ◌-◌, ◌%◌, drop, arith}
use Rattle.std.proofs.lemmas.List.{length-take, length-drop}
use Rattle.zf_spec.{specs.Stream.{to_bits}, proofs.Bytes.{length-to_bits}}
use Rattle.zf_bound.proofs.Cuts.{are_from}
use Rattle.zf_bound.proofs.planes.see_code.Goals as goal

pub returns-clause-bits : goal.returns-clause-bits
returns-clause-bits c = are_from c.args.span.at _ (to_bits c.args.file.now) _ c.take.ensures.bits

pub returns-clause-there : goal.returns-clause-there
returns-clause-there c =
    let s = drop c.args.span.at (to_bits c.args.file.now) in
    omega (arith, ap length c.take.ensures.bits, length-take (64 * c.args.excerpt.now.room - c.args.span.at % 64) s, length-drop c.args.span.at (to_bits c.args.file.now), length-to_bits c.args.file.now, c.requires.inside, c.requires.fits)
