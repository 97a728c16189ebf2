use Rattle.std.proofs.Common.{◌≤◌, length, Err, ap, sym, subst}
use Rattle.std.proofs.lemmas.Bool.{false≢true}
use Rattle.zf_dev.specs.Source.{Takes, Gives}
use Rattle.zf_program.{specs.Subjects.{subject}, proofs.Rungs.{WorksOn-taken, WorksOn-untaken}}
use Rattle.zf_program.proofs.commands.script.on_target.Goals as goal

pub returns-in-Ok : goal.returns-in-Ok
returns-in-Ok g c = λ access file stands.
    let same = sym c.deref.ensures.value in
    WorksOn-taken access c.args.name.now file c.deref.result.now c.on_script.result _ _ _ _ _ _ (subst (Takes _ _) same c.in-Ok.ensures.ok) (subst (Gives _ _) same c.in-Ok.ensures.gave) c.in-Ok.ensures.ended c.in-Ok.ensures.end (subst (λ script. length script ≤ 16777216) same c.in-Ok.ensures.bound)
    c.take_all.ensures.source.cause.0 c.take_all.ensures.seen.0 (λ sure. (c.take_all.ensures.source.sure sure).1) (c.on_script.ensures access file stands)

pub returns-in-Err : goal.returns-in-Err
returns-in-Err g c = λ access file stands.
    rw c.from.ensures (WorksOn-untaken access c.args.name.now file (subject g.T.Lane.value g.T.Lane.width c.args.target.now) stands c.in-Err.error _ _ _ _ (λ long. c.in-Err.ensures.long (ap Err long)) c.take_all.ensures.taken
    (c.in-Err.ensures.source.cause.0, λ is. c.in-Err.ensures.source.cause.1 (ap Err is)) (c.in-Err.ensures.seen.1 false≢true) (λ sure. let s = c.in-Err.ensures.source.sure sure in (λ is. s.0 (ap Err is), s.1)))
