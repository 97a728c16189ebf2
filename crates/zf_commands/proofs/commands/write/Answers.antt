use Rattle.zf_commands.proofs.Commanding.{flushed, discarded}
use Rattle.zf_commands.proofs.commands.write.Goals as goal

pub returns-in-Flush : goal.returns-in-Flush
returns-in-Flush g c =
    rw c.in-Flush.is (flushed g.A.Subject c.args.a.now c.requires.ready (g.met.A.Target.whole c.args.a.now) c.flush_all.new.self c.flush_all.ensures)

pub returns-in-Discard : goal.returns-in-Discard
returns-in-Discard g c =
    rw c.in-Discard.is (discarded g.A.Subject c.args.a.now c.requires.ready (g.met.A.Target.whole c.args.a.now) c.discard_all.new.self c.discard_all.ensures)
