use Rattle.zf_cache.proofs.Placed.{touches_for_writing}
use Rattle.zf_cache.proofs.cache.CacheBy.touch_mut.Goals as goal

pub returns-clause-step : goal.returns-clause-step
returns-clause-step g c = let e = c.touch_for_writing.ensures in touches_for_writing g.R.Rule.place g.R.Placing.line g.met.R.Rule.told g.T.Lane.value g.B.Reading c.self.inside.body c.args.self.now c.self.view_is c.args.back.now c.requires.backed.fits c.touch_for_writing.new.self c.touch_for_writing.new.back c.args.b c.touch_for_writing.result e.line.comes e.step
