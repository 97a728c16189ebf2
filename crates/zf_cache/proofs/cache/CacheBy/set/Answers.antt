use Rattle.zf_cache.proofs.Placed.{puts_in}
use Rattle.zf_cache.proofs.cache.CacheBy.set.Goals as goal

pub returns : goal.returns
returns g c = record {
  step = puts_in g.R.Rule.place g.R.Placing.line g.met.R.Rule.told g.T.Lane.value g.B.Reading c.self.inside.body c.args.self.now c.self.view_is c.args.back.now c.requires.backed.fits c.set.new.self c.set.new.back c.args.b c.args.p (g.T.Lane.value c.args.v) c.set.ensures.step;
}
