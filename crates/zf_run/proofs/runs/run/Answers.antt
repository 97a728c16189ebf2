use Rattle.std.proofs.Common.{rules, sym, ap, subst, ◌∙◌}
use Rattle.zf_base.specs.declared.lane.Ty.{Ty}
use Rattle.zf_header.{specs.declared.header.Mode.{Mode}, specs.HeaderBits.{block_bits}}
use Rattle.zf_cached.{specs.Windows.{whole}, specs.Runs.{run, run_script, ended, array_setting}}
use Rattle.zf_array.specs.Standing.{Held}
use Rattle.zf_run.{specs.Ends.{Runs}, specs.Sessions.{setting_of}, specs.Splits.{session_in}, proofs.Ending.{all_ran, has_stopped}}
use Rattle.zf_run.proofs.runs.run.Goals as goal

pub returns-in-Ok-clause-runs : goal.returns-in-Ok-clause-runs
unfolding run run_script
returns-in-Ok-clause-runs g c =
    let a = c.args.a.now in let w = g.T.Lane.width in let last = c.run_lines.new.a in
    let old = g.O.Sink.contents c.args.out.now in let new = g.O.Sink.contents c.run_lines.new.out in
    let kept = ap (λ (q : _). q.0) c.run_lines.ensures.stays.kept in
    let is = c.a-1.given.1 (sym (c.finish.ensures.kept.1 ∙ ap (λ (q : _). q.1) c.run_lines.ensures.stays.kept)) in
    subst (λ (m : Held). Runs w a m c.args.script.now old new c.end_of.result) (sym is)
    (all_ran (c.whole-window.ensures.window ∙ ap whole c.shape-shape.ensures.value) (c.finish.ensures.kept.0 ∙ kept)
    (ended (setting_of w a)) c.finish.new.self.window c.in-Ok.refused c.end_of.result c.in-Ok.ensures.ok
    (ap (λ (k : Ty × Mode). ended (array_setting w (block_bits k.1)) (session_in g.T.Lane.value last)) (sym kept) ∙ c.finish.ensures.ended) c.end_of.ensures)

-- a line was the last one: its views are dropped
pub returns-clause-runs : goal.returns-clause-runs
returns-clause-runs g c = search (rules, has_stopped)
