use Rattle.zf_cache.proofs.Placed.{flushes}
use Rattle.zf_cache.proofs.cache.CacheBy.flush.Goals as goal

pub returns-clause-step : goal.returns-clause-step
returns-clause-step g c = flushes g.R.Rule.place g.R.Placing.line g.met.R.Rule.told g.T.Lane.value g.B.Reading c.self.inside.body c.args.self.now c.self.view_is c.args.back.now c.requires.backed.fits c.flush.new.self c.flush.new.back c.flush.ensures.step
