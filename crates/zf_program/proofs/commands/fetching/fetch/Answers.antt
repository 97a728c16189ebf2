use Rattle.std.proofs.Common.{inr}
use Rattle.zf_program.proofs.Fetching.{LacksHeader-front}
use Rattle.zf_program.proofs.commands.fetching.fetch.Goals as goal

pub returns-in-Ok-clause-err : goal.returns-in-Ok-clause-err
returns-in-Ok-clause-err g c =
    let front = rw c.as_str.ensures at c.in-Ok.ensures.ok in
    let bad = rw c.deref.ensures.value at c.in-Err-read.ensures.fault in
    inr (LacksHeader-front (g.F.Shelf.files c.args.shelf.now) c.args.name.now c.in-Ok.front.items c.in-Err-read.fault front c.in-Ok.ensures.bound bad)
