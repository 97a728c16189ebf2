use Rattle.zf_program.proofs.Subjects.{Ran-direct, Ran-two, Ran-look}
use Rattle.zf_program.proofs.commands.target.Target.run.Goals as goal

pub returns-in-Direct-clause-ran : goal.returns-in-Direct-clause-ran
returns-in-Direct-clause-ran g c = rw c.in-Direct.is (Ran-direct g.T.Lane.width c.in-Direct.array c.run.new.a c.args.script.now _ _ c.run.result c.run.ensures.runs)

pub returns-in-TwoWay-clause-ran : goal.returns-in-TwoWay-clause-ran
returns-in-TwoWay-clause-ran g c =
    let o = c.in-TwoWay.pair in
    rw c.in-TwoWay.is (Ran-two g.T.Lane.value g.T.Lane.width o.store c.run_two.new.store o.cache c.run_two.new.cache c.args.script.now _ _ c.run_two.result c.run_two.ensures.runs)

pub returns-in-Look-clause-ran : goal.returns-in-Look-clause-ran
returns-in-Look-clause-ran g c = rw c.in-Look.is (Ran-look g.T.Lane.width c.in-Look.array c.look.new.a c.args.script.now _ _ c.look.result c.look.ensures.looks)
