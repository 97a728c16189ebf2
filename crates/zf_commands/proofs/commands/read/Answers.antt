use Rattle.zf_commands.{proofs.Commanding.{sum_is, counted}, proofs.Passing.{small_is}}
use Rattle.zf_commands.proofs.commands.read.Goals as goal

pub returns-in-Sum : goal.returns-in-Sum
returns-in-Sum g c =
    rw c.in-Sum.is
    (sum_is g.A.Subject c.args.a.now c.requires.ready (g.met.A.Target.whole c.args.a.now) c.sum_blocks.new.a _ c.sum_blocks.result
    (small_is c.sum_blocks.result c.sum_blocks.ensures.does.bound) c.sum_blocks.ensures)

pub returns-in-Stats : goal.returns-in-Stats
returns-in-Stats g c =
    rw c.in-Stats.is
    (counted g.A.Subject c.args.a.now c.requires.ready (g.met.A.Target.whole c.args.a.now) c.counts.result.hits c.counts.result.misses c.counts.result.writes c.counts.ensures)
