use Rattle.std.{proofs.Common.{rules}, proofs.lemmas.List.{take-take, length-take-le}}
use Rattle.zf_dev.proofs.Held.{held_more}
use Rattle.zf_dev.proofs.buffer.Buffer.append.Goals as goal

pub returns-clause-held : goal.returns-clause-held
returns-clause-held c = search (rules, length-take-le, held_more, take-take)
