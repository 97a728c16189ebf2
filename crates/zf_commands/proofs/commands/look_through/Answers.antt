use Rattle.zf_commands.{proofs.Commanding.{vsum_is}, proofs.Passing.{small_is}}
use Rattle.zf_commands.proofs.commands.look_through.Goals as goal

pub returns-in-Sum : goal.returns-in-Sum
returns-in-Sum g c =
    rw c.in-Sum.is
    (vsum_is g.A.Subject c.args.a.now c.requires.ready (g.met.A.Target.whole c.args.a.now) c.sum_of_window.new.a _ c.sum_of_window.result
    (small_is c.sum_of_window.result c.sum_of_window.ensures.does.bound) c.sum_of_window.ensures)
