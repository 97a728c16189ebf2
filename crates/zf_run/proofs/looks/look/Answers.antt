use Rattle.std.proofs.Common.{rules, refl, sym, ap, subst, ◌∙◌}
use Rattle.zf_cached.{specs.Windows.{whole}, specs.Runs.{look, run_script}}
use Rattle.zf_const.specs.Standing.{Held}
use Rattle.zf_run.{specs.Ends.{Looks}, proofs.Ending.{all_ran, has_stopped}}
use Rattle.zf_run.proofs.looks.look.Goals as goal

pub returns-in-Ok-clause-looks : goal.returns-in-Ok-clause-looks
unfolding look run_script
returns-in-Ok-clause-looks g c =
    let ran = c.run_lines.new in let old = g.O.Sink.contents c.args.out.now in
    let is = c.a-1.given.1 (sym (ap (λ (q : _). q.1) c.run_lines.ensures.stays.kept)) in
    subst (λ (m : Held). Looks g.T.Lane.width c.args.a.now m c.args.script.now old (g.O.Sink.contents ran.out) c.end_of.result) (sym is)
    (all_ran (c.whole-window.ensures.window ∙ ap whole c.shape.ensures.value) (ap (λ (q : _). q.0) c.in-Ok.ensures.stays.kept)
    (λ s. s) ran.a.window c.in-Ok.refused c.end_of.result c.in-Ok.ensures.ok refl c.end_of.ensures)

pub returns-in-Err-clause-looks : goal.returns-in-Err-clause-looks
returns-in-Err-clause-looks g c = search (rules, has_stopped)
