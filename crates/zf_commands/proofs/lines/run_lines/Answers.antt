use Rattle.std.proofs.Common.{refl, ap, ◌∙◌, ◌+◌, arith, rules}
use Rattle.zf_commands.proofs.Lining.{unmoved, ready_then}
use Rattle.zf_commands.proofs.Folding.{none_run, run_on, stop_here, all_run, breaks_as, replies_as, one_or_none, at_most_one, of_error}
use Rattle.zf_commands.proofs.lines.run_lines.Goals as goal

pub loop-line-init : goal.loop-line-init
loop-line-init g c = (none_run _ _ _ _, unmoved c.requires, omega arith, refl)

pub run_line-requires : goal.run_line-requires
run_line-requires g c = c.loop-line.invariant.1.ready

pub returns-in_err-run_line-clause-stays : goal.returns-in_err-run_line-clause-stays
returns-in_err-run_line-clause-stays g c = ready_then c.loop-line.invariant.1 c.in_err-run_line.ensures.stays

pub returns-in_err-run_line-clause-err : goal.returns-in_err-run_line-clause-err
returns-in_err-run_line-clause-err g c =
    let inv = c.loop-line.invariant in
    let breaks = breaks_as g.A.Subject.setting inv.1.kept c.in_err-run_line.ensures.err in
    of_error c.from_residual.result
    (stop_here _ _ _ _ _ _ _ _ _ _ _ inv.0
    c.in-Some.ensures.parts _ breaks c.args.script.now refl)

pub overflow_add-refused : goal.overflow_add-refused
overflow_add-refused g c = record { fits = omega (arith, c.from.ensures, at_most_one c.in_ok-run_line.field-0, c.in-Some.ensures.shorter, c.loop-line.invariant.2) }

pub loop-line-smaller : goal.loop-line-smaller
loop-line-smaller g c = c.in-Some.ensures.shorter

pub loop-line-preserved : goal.loop-line-preserved
loop-line-preserved g c = search (rules, replies_as, run_on, one_or_none, ready_then, at_most_one)

pub run_line-requires-2 : goal.run_line-requires-2
run_line-requires-2 g c = c.loop-line.invariant.1.ready

pub returns-in_err-run_line-2-clause-stays : goal.returns-in_err-run_line-2-clause-stays
returns-in_err-run_line-2-clause-stays g c = ready_then c.loop-line.invariant.1 c.in_err-run_line-2.ensures.stays

pub returns-in_err-run_line-2-clause-err : goal.returns-in_err-run_line-2-clause-err
returns-in_err-run_line-2-clause-err g c =
    let inv = c.loop-line.invariant in
    let breaks = breaks_as g.A.Subject.setting inv.1.kept c.in_err-run_line-2.ensures.err in
    of_error c.from_residual-in_err-run_line-2.result
    (stop_here _ _ _ _ _ _ _ _ _ _ _ inv.0
    c.in_default.ensures.none _ breaks c.args.script.now refl)

pub overflow_add-refused-2 : goal.overflow_add-refused-2
overflow_add-refused-2 g c = record { fits = omega (arith, c.from-2.ensures, at_most_one c.in_ok-run_line-2.field-0, c.loop-line.invariant.2) }

pub returns-clause-ok : goal.returns-clause-ok
returns-clause-ok g c =
    let inv = c.loop-line.invariant in
    let told = c.in_ok-run_line-2.ensures in
    let t = c.in_ok-run_line-2.field-0 in
    let replies = replies_as g.A.Subject.setting inv.1.kept told.ok in
    all_run _ c.args.script.now _ _ _ _ _ _ refl
    (run_on _ _ _ _ _ _ _ _ _ _ _ inv.0
    c.in_default.ensures.none _ t replies _ (ap (λ n. c.loop-line.refused + n) (c.from-2.ensures ∙ one_or_none t)))

pub returns-clause-stays : goal.returns-clause-stays
returns-clause-stays g c = ready_then c.loop-line.invariant.1 c.in_ok-run_line-2.ensures.stays
