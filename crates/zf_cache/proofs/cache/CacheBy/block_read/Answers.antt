use Rattle.std.proofs.Common.{rules, refl}
use Rattle.zf_cached.specs.Touch.{touch_at}
use Rattle.zf_cache.{specs.Bodies.{kept_of}, specs.Standing.{state_at}, proofs.Lent.{shows}, proofs.Placed.{touches, stands}}
use Rattle.zf_cache.proofs.cache.CacheBy.block_read.Goals as goal

pub returns : goal.returns
returns g c =
    let f = g.B.Reading.format c.args.back.now in let k = g.B.Reading.codes c.args.back.now in let b = c.args.b in let value = g.T.Lane.value in
    let o = kept_of c.self.inside.body in let t = c.touch_read-l.new.self in let l = c.touch_read-l.result in let e = c.touch_read-l.ensures in
    let h = g.B.Reading.format c.touch_read-l.new.back in let j = g.B.Reading.codes c.touch_read-l.new.back in
    let state = (touches g.R.Rule.place g.R.Placing.line g.met.R.Rule.told g.T.Lane.value g.B.Reading c.self.inside.body c.args.self.now c.self.view_is c.args.back.now c.requires.backed.fits c.touch_read-l.new.self c.touch_read-l.new.back b l e.line.comes e.step).state in
    let s = touch_at g.R.Placing.line f (state_at g.R.Rule.place value c.args.self.now f k) b in
    let told = shows g.R.Rule.place g.R.Placing.may_hold g.met.R.Rule.rule value f h j o t b l e.step.format e.step.fits e.line.comes s c.line.result.now state c.line.ensures in
    ((refl, λ _. tt, (stands g.R.Rule.place g.R.Placing.line g.met.R.Rule.told g.T.Lane.value g.R.Placing.may_hold g.met.R.Rule.rule f h j o t b l e.step.format e.step.fits e.line.comes s state, e.clean)), search rules)
