use Rattle.std.{proofs.Common.{rules}, proofs.lemmas.List.{take_more_set}}
use Rattle.zf_narrow.proofs.promotion.Promotion.give_half.Goals as goal

pub returns-in-Some-clause-half : goal.returns-in-Some-clause-half
returns-in-Some-clause-half c =
    let given = take_more_set c.args.buf.now 0 0 c.requires.room in search (rules, given)

pub returns-in-None-clause-half : goal.returns-in-None-clause-half
returns-in-None-clause-half c = search rules
