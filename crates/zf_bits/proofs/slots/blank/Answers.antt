use Rattle.std.{proofs.Common.{arith}, proofs.lemmas.List.{length-take-le}}
use Rattle.zf_bits.proofs.slots.blank.Goals as goal

pub returns : goal.returns
returns c = grind (arith, length-take-le c.args.count c.args.words.now c.requires)
