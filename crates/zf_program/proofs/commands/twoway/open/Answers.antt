use Rattle.zf_program.proofs.TwoWays.{opens_two}
use Rattle.zf_program.proofs.commands.twoway.open.Goals as goal

pub returns-clause-state : goal.returns-clause-state
returns-clause-state g c =
    opens_two g.T.Lane.value g.T.Lane.width c.in_ok-store.store c.in-Ok.cache c.args.header.now c.args.lines c.raised.result c.in-Ok.ensures.empty c.in-Ok.ensures.counts c.raised.ensures.value c.in_ok-store.ensures.ok.header c.requires.same_type
