use Rattle.std.proofs.Common.{◌≡◌, ap, ◌∙◌, length, rules, arith}
use Rattle.zf_cache.{specs.Bodies.{kept_of}, specs.Standing.{state_at}}
use Rattle.zf_cache.proofs.Tags.{tag-set_same, tag-set_other, zeros_of}
use Rattle.zf_cache.proofs.Touches.{flushing, flush_begins, flush_goes_on, flush_ends, past_lines}
use Rattle.zf_cache.proofs.body.Body.flush.Goals as goal

pub loop-l-init : goal.loop-l-init
loop-l-init g c = search (rules, flush_begins)

pub loop-l-preserved : goal.loop-l-preserved
loop-l-preserved g c = search (rules, flush_goes_on, flushing, tag-set_same, tag-set_other)

pub returns-clause-step : goal.returns-clause-step
unfolding state_at
returns-clause-step g c =
    let a = c.args.self.now in let f = g.B.Reading.format c.args.back.now in let k = g.B.Reading.codes c.args.back.now in
    let inv = c.loop-l.invariant in let s = state_at g.R.Rule.place g.T.Lane.value (kept_of a) f k in
    let count : c.len-l-end.result ≡ length a.tags.items = search (c.len-l-end.ensures, rules) in
    let at_end : c.loop-l.l ≡ length a.tags.items = omega (arith, c.loop-l-test.false, c.loop-l.auto.l-end, count) in
    record {
      state = inv.0.state ∙ ap (flushing f s) at_end ∙ flush_ends f s (past_lines g.R.Rule.place g.T.Lane.value f (kept_of a) k);
      fits = inv.0.fits;
      format = inv.0.format;
      kept = inv.0.kept;
    }

pub returns-clause-empty : goal.returns-clause-empty
returns-clause-empty g c = search (rules, zeros_of)
