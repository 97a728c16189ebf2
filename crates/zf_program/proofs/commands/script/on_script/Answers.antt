use Rattle.std.proofs.Common.{refl}
use Rattle.zf_program.{specs.declared.status.Status.TheVariants.{Done, Lines}, specs.Subjects.{subject, filed_now}}
use Rattle.zf_program.{proofs.Scripting.{lines_status-some}, proofs.Rungs.{Answers-closed, Answers-cut}}
use Rattle.zf_program.proofs.commands.script.on_script.Goals as goal

pub returns-in-Done : goal.returns-in-Done
returns-in-Done g c = λ access file stands.
    let as_subject = subject g.T.Lane.value g.T.Lane.width in
    let r = c.in-Done.ensures.ran in
    Answers-closed access c.args.name.now file (as_subject c.args.target.now) stands c.args.script.now r.starved r.last (filed_now (as_subject c.run.new.self)) 0 Done c.close.result _ _ _ _ _ r.how.0 r.how.1 c.run.ensures.cause.0 refl c.close.ensures

pub returns-in-Lines : goal.returns-in-Lines
returns-in-Lines g c = λ access file stands.
    let as_subject = subject g.T.Lane.value g.T.Lane.width in
    let r = c.in-Lines.ensures.ran in
    let n = c.in-Lines.count in
    Answers-closed access c.args.name.now file (as_subject c.args.target.now) stands c.args.script.now r.starved r.last (filed_now (as_subject c.run.new.self)) n (Lines n) c.close-in-Lines.result _ _ _ _ _
    r.how.1.0 r.how.1.1 c.run.ensures.cause.0 (lines_status-some n r.how.0) c.close-in-Lines.ensures

pub returns-in-Write : goal.returns-in-Write
returns-in-Write g c = λ access file stands.
    let as_subject = subject g.T.Lane.value g.T.Lane.width in
    Answers-cut access c.args.name.now file (as_subject c.args.target.now) stands c.args.script.now (filed_now (as_subject c.run.new.self)) c.send.result _ _ _ _ c.in-Write.ensures.ran c.run.ensures.cause.0 (c.in-Write.ensures.cause.1 refl) c.send.ensures
