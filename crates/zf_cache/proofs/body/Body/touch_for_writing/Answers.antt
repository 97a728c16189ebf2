use Rattle.std.{proofs.Common.{refl, ap, ◌∙◌, ◌+◌, ◌*◌}, specs.Vec.{with_item}}
use Rattle.zf_cache.{specs.declared.body.Body.{Body}, specs.Bodies.{kept_of}, proofs.Tags.{tag-set_same}}
use Rattle.zf_cache.proofs.Sound.{line_below, soils_line, comes_soiling}
use Rattle.zf_cached.specs.Touch.{soiled}
use Rattle.zf_cache.proofs.body.Body.touch_for_writing.Goals as goal

pub returns : goal.returns
returns g c =
    let a = c.args.self.now in let t = c.touch-l.new.self in let l = c.touch-l.result in let h = g.B.Reading.format c.touch-l.new.back in let j = g.B.Reading.codes c.touch-l.new.back in
    let e = c.touch-l.ensures in let b = c.args.b in
    let lt = line_below g.R.Rule.place g.R.Placing.may_hold g.met.R.Rule.rule g.T.Lane.value t h j e.step.fits (kept_of a) b l e.line.comes in
    let d : Body g.row.T.Denot = record { lines = t.lines; tags = with_item t.tags l (2 * b + 3); counts = t.counts } in
    let both = soils_line g.R.Rule.place g.R.Placing.may_hold g.met.R.Rule.rule g.T.Lane.value t d h h j j refl e.step.fits l lt.0 b e.line.comes.here refl refl refl refl in
    record {
      step = record { state = both.1 ∙ ap (λ s. soiled s b) e.step.state; fits = both.0; format = e.step.format; kept = e.step.kept };
      line = record { comes = comes_soiling g.R.Rule.place (kept_of a) (kept_of t) b l (kept_of d) e.line.comes lt refl refl; written = e.line.written };
      dirty = tag-set_same t.tags.items l (2 * b + 3) lt.0;
    }
