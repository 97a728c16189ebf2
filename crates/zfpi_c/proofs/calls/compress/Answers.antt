use Rattle.std.proofs.Common.{◌≡◌, subst, Result, Err, OnOk, IfErr, rules}
use Rattle.zf_header.specs.declared.header.Header.{Header}
use Rattle.zfpi_c.specs.declared.status.Status.{Status}
use Rattle.zfpi_c.specs.Statuses.{of_stream}
use Rattle.zfpi_c.specs.Fields.{narrow_of, text_of, answer_of, text_with, answer_with}
use Rattle.zfpi_c.specs.Calls.{Writes, Refuses}
use Rattle.zfpi_c.proofs.Ends.{told_ok, told_err, untouched_by}
use Rattle.zfpi_c.proofs.calls.compress.Goals as goal

pub returns-in_err-header-clause-err : goal.returns-in_err-header-clause-err
returns-in_err-header-clause-err c =
    let n = narrow_of c.args.field.now.ty in
    let raw = c.args.raw.now in
    let out = c.args.out.now in
    let len = c.args.len.now in
    let status = c.in_err-header.field-0.0 in
    let same : c.from_residual.result ≡ Err status = search rules in
    subst (λ (a : Result Header Status). IfErr c.from_residual.result (Refuses (answer_with n a raw) (text_with n a) raw out out len len)) c.in_err-header.ensures.answer
    (untouched_by (text_with n (Err status)) raw out len status c.from_residual.result same)

pub returns-clause-ok : goal.returns-clause-ok
returns-clause-ok c =
    let n = narrow_of c.args.field.now.ty in
    let h = c.in_ok-header.header in
    let raw = c.args.raw.now in
    let out = c.args.out.now in
    subst (λ (a : Result Header Status). OnOk c.tell.result (Writes (answer_with n a raw) (text_with n a raw) out c.compressed.new.out c.tell.new.len)) c.in_ok-header.ensures.answer
    (told_ok of_stream (answer_of n h) (text_of n h) raw out c.compressed.new.out c.tell.result c.in_ok-count.count c.tell.new.len c.in_ok-count.ensures.ok c.tell.ensures.told c.tell.ensures.ok)

pub returns-clause-err : goal.returns-clause-err
returns-clause-err c =
    let n = narrow_of c.args.field.now.ty in
    let h = c.in_ok-header.header in
    let raw = c.args.raw.now in
    let out = c.args.out.now in
    subst (λ (a : Result Header Status). IfErr c.tell.result (Refuses (answer_with n a raw) (text_with n a) raw out c.compressed.new.out c.args.len.now c.tell.new.len)) c.in_ok-header.ensures.answer
    (told_err of_stream (answer_of n h) (text_of n h) raw out c.compressed.new.out c.tell.result c.args.len.now c.in_ok-count.count c.tell.new.len c.in_ok-count.ensures.ok c.tell.ensures.told c.tell.ensures.err)
