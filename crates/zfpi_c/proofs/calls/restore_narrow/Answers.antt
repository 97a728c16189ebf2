use Rattle.std.proofs.Common.{◌≡◌, subst, Option, None, Some, OnOk, IfErr, rules}
use Rattle.zf_narrow.specs.declared.narrow.Narrow.{Narrow}
use Rattle.zf_narrow.specs.Texts.{restore_narrow_answer, narrow_restored}
use Rattle.zfpi_c.specs.declared.status.Status.TheVariants as statuses
use Rattle.zfpi_c.specs.Statuses.{of_narrow}
use Rattle.zfpi_c.specs.Fields.{narrow_of, restore_narrow_stated, narrow_values}
use Rattle.zfpi_c.specs.Calls.{Writes, Refuses}
use Rattle.zfpi_c.proofs.Ends.{told_ok, told_err, untouched}
use Rattle.zfpi_c.proofs.calls.restore_narrow.Goals as goal

pub returns-in_default-clause-err : goal.returns-in_default-clause-err
returns-in_default-clause-err c =
    let stream = c.args.stream.now in
    let out = c.args.out.now in
    let none : None ≡ narrow_of c.args.ty = search rules in
    subst (λ (o : Option Narrow). Refuses (restore_narrow_stated o stream) (narrow_values o) stream out out c.args.len.now c.args.len.now statuses.Scalar) none
    (untouched (narrow_values None) stream out c.args.len.now statuses.Scalar)

pub returns-clause-ok : goal.returns-clause-ok
returns-clause-ok c =
    let stream = c.args.stream.now in
    let out = c.args.out.now in
    let some : Some c.in-Some.n ≡ narrow_of c.args.ty = search rules in
    subst (λ (o : Option Narrow). OnOk c.tell.result (Writes (restore_narrow_stated o stream) (narrow_values o stream) out c.restore_narrow_into.new.out c.tell.new.len)) some
    (told_ok of_narrow restore_narrow_answer (narrow_restored c.in-Some.n) stream out c.restore_narrow_into.new.out c.tell.result c.in_ok-count.count c.tell.new.len c.in_ok-count.ensures.ok c.tell.ensures.told c.tell.ensures.ok)

pub returns-clause-err : goal.returns-clause-err
returns-clause-err c =
    let stream = c.args.stream.now in
    let out = c.args.out.now in
    let some : Some c.in-Some.n ≡ narrow_of c.args.ty = search rules in
    subst (λ (o : Option Narrow). IfErr c.tell.result (Refuses (restore_narrow_stated o stream) (narrow_values o) stream out c.restore_narrow_into.new.out c.args.len.now c.tell.new.len)) some
    (told_err of_narrow restore_narrow_answer (narrow_restored c.in-Some.n) stream out c.restore_narrow_into.new.out c.tell.result c.args.len.now c.in_ok-count.count c.tell.new.len c.in_ok-count.ensures.ok c.tell.ensures.told c.tell.ensures.err)
