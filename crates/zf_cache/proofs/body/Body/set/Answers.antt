use Rattle.std.proofs.Common.{refl, sym, ap, subst, ◌∙◌, ℕ, ◌<◌, set}
use Rattle.zf_lines.specs.Rows.{with_line}
use Rattle.zf_cached.specs.Touch.{soiled}
use Rattle.zf_cache.{specs.declared.body.Body.{Body}, specs.Bodies.{kept_of}, specs.Kept.{line_by}}
use Rattle.zf_cache.{specs.Standing.{state_at}, specs.Steps.{touch_in}, proofs.Sound.{line_below}}
use Rattle.zf_cache.proofs.Puts.{puts, puts_sound}
use Rattle.zf_cache.proofs.body.Body.set.Goals as goal

pub returns : goal.returns
returns g c =
    let a = c.args.self.now in let f = g.B.Reading.format c.args.back.now in let k = g.B.Reading.codes c.args.back.now in
    let b = c.args.b in let p = c.args.p in let v = c.args.v in let value = g.T.Lane.value in let place = g.R.Rule.place in
    let t = c.touch_for_writing-l.new.self in let l = c.touch_for_writing-l.result in let e = c.touch_for_writing-l.ensures in
    let h = g.B.Reading.format c.touch_for_writing-l.new.back in let j = g.B.Reading.codes c.touch_for_writing-l.new.back in
    let lt = line_below place g.R.Placing.may_hold g.met.R.Rule.rule value t h j e.step.fits (kept_of a) b l e.line.comes in
    let row = c.line_mut.result.now in
    let d : Body g.row.T.Denot = record { lines = record t.lines { blocks = with_line t.lines.blocks l (set row p v) }; tags = t.tags; counts = t.counts } in
    let touched = λ (m : ℕ). soiled (touch_in f (state_at place value (kept_of a) f k) m b) b in
    let at = line_by place (kept_of a) b in
    let state = e.step.state ∙ ap touched e.line.comes.at in
    record {
      step = record {
        state = puts place g.R.Placing.may_hold g.met.R.Rule.rule value t d h f j b l (touched at) e.step.fits e.step.format lt.0 e.dirty state row p v c.line_mut.ensures.value
            (subst (λ (q : _). p < q.block_len) (sym e.step.format) c.requires.place) refl refl refl;
        fits = puts_sound place g.R.Placing.may_hold g.met.R.Rule.rule value t d h f j b l (touched at) e.step.fits e.step.format lt.0 e.dirty state row p v refl refl refl;
        format = e.step.format;
        kept = e.step.kept;
      };
    }
