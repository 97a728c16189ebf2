use Rattle.std.proofs.Common.{rules, sym, ap, subst, ◌∙◌, length}
use Rattle.zf_header.specs.declared.header.Header.{Header}
use Rattle.zf_cached.{specs.Windows.{whole}, specs.Steps.{flushed_views, joined, done}}
use Rattle.zf_cached.specs.Runs.{run, run_script, ended}
use Rattle.zf_cache.{proofs.Steps.{empty_fits_at}, specs.Kept.{Kept}}
use Rattle.zf_store.specs.Stored.{Stored, format_of, code_at}
use Rattle.zf_twoway.specs.Placing.{skewed}
use Rattle.zf_run.{specs.Ends.{RunsTwo}, specs.Pairs.{pair_session, two_setting_of}, proofs.Ending.{all_ran, has_stopped}}
use Rattle.zf_run.proofs.two_runs.run_two.Goals as goal

pub run_lines-requires : goal.run_lines-requires
run_lines-requires g c =
    let s = c.args.store.now in let k = c.args.cache.now in let value = g.T.Lane.value in
    let sound = empty_fits_at skewed value (format_of s) (code_at s) k (length k.tags) c.requires in search rules

pub returns-in-Ok-clause-runs : goal.returns-in-Ok-clause-runs
unfolding run run_script ended joined flushed_views done
returns-in-Ok-clause-runs g c =
    let s = c.args.store.now in let k = c.args.cache.now in let value = g.T.Lane.value in let w = g.T.Lane.width in
    let a = c.run_lines.new.a in let b = c.flush_all.new.self in
    let kept = c.flush_all.ensures.kept ∙ c.run_lines.ensures.stays.kept in
    let head = ap (λ (q : _). q.0) c.run_lines.ensures.stays.kept in
    let store = c.store-1.given.1 (sym (ap (λ (q : _). q.1) kept)) in
    let cache = c.cache-1.given.1 (sym (ap (λ (q : _). q.2) kept)) in
    let old = g.O.Sink.contents c.args.out.now in let new = g.O.Sink.contents c.run_lines.new.out in
    subst (λ (d : Kept g.row.T.Denot). RunsTwo value w s c.store-1.given.0 k d c.args.script.now old new c.end_of.result) (sym cache)
    (subst (λ (t : Stored). RunsTwo value w s t k b.cache.now c.args.script.now old new c.end_of.result) (sym store)
    (all_ran (c.whole-window.ensures.window ∙ ap (λ (h : Header). whole h.shape) c.header.ensures.value) (ap (λ (q : _). q.0) kept, c.flush_all.ensures.sound.fits)
    (ended (two_setting_of w s.header)) b.window c.in-Ok.refused c.end_of.result c.in-Ok.ensures.ok
    (ap (λ (h : Header). ended (two_setting_of w h) (pair_session value a.store.now a.cache.now a.window)) (sym head) ∙ ap (λ (r : _). r.0) c.flush_all.ensures.does) c.end_of.ensures))

pub returns-in-Err-clause-runs : goal.returns-in-Err-clause-runs
returns-in-Err-clause-runs g c = search (rules, has_stopped)
