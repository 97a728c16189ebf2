use Rattle.std.proofs.Common.{◌<◌, sym, ap, subst, ◌∙◌}
use Rattle.zf_cache.{specs.Bodies.{kept_of}, proofs.Lent.{gets}, proofs.Placed.{touches}}
use Rattle.zf_cache.proofs.cache.CacheBy.get_read.Goals as goal

pub returns-clause-step : goal.returns-clause-step
returns-clause-step g c = let e = c.touch_read-l.ensures in touches g.R.Rule.place g.R.Placing.line g.met.R.Rule.told g.T.Lane.value g.B.Reading c.self.inside.body c.args.self.now c.self.view_is c.args.back.now c.requires.backed.fits c.touch_read-l.new.self c.touch_read-l.new.back c.args.b c.touch_read-l.result e.line.comes e.step

pub returns-clause-value : goal.returns-clause-value
returns-clause-value g c =
    let f = g.B.Reading.format c.args.back.now in
    let t = c.touch_read-l.new.self in let e = c.touch_read-l.ensures in
    let h = g.B.Reading.format c.touch_read-l.new.back in let j = g.B.Reading.codes c.touch_read-l.new.back in
    let within = subst (λ n. c.args.p < n) (sym (ap (λ q. q.block_len) e.step.format ∙ c.requires.backed.blocks.0)) c.requires.place in
    gets g.R.Rule.place g.R.Placing.may_hold g.met.R.Rule.rule g.T.Lane.value f h j (kept_of c.self.inside.body) t c.args.b c.touch_read-l.result e.step.format e.step.fits e.line.comes c.args.p c.line.result.now c.index-line-p.result within c.line.ensures c.index-line-p.is
