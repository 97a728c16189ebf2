use Rattle.std.{proofs.Common.{rules, inl, inr, ◌<◌, arith}, proofs.lemmas.Result.{err_from_is_err_and}}
use Rattle.std.proofs.lemmas.List.{length-take-le}
use Rattle.zf_stream.{proofs.Headed.{good_of_prefix}, proofs.GivenBack.{refused_unwritten, refused_header, restored_by, behind_more}}
use Rattle.zf_stream.proofs.RestoreEndings.{restored_known, restored_header, restored_unread}
use Rattle.zf_stream.proofs.restoring.restore.Goals as goal

pub returns-in_err-count-clause-outcome : goal.returns-in_err-count-clause-outcome
returns-in_err-count-clause-outcome g c = search (rules, err_from_is_err_and, restored_unread)

pub returns-in_err-h-clause-outcome : goal.returns-in_err-h-clause-outcome
returns-in_err-h-clause-outcome g c =
    let p = err_from_is_err_and c.from_residual-in_err-h.result c.from_residual-in_err-h.ensures.1 in
    rw (p.1, p.2) (restored_header _ _ _ _ _ c.in_ok-count.ensures.first c.in_err-h.ensures.err)

pub returns-in_err-count-clause-given : goal.returns-in_err-count-clause-given
returns-in_err-count-clause-given g c =
    let p = err_from_is_err_and c.from_residual.result c.from_residual.ensures.1 in
    let some = c.read_into.ensures.gave_some in
    rw (p.1, p.2) (refused_unwritten some.0 some.1 _ _ (inr (inl c.in_err-count.ensures.source.fault)))

pub returns-in_err-h-clause-given : goal.returns-in_err-h-clause-given
returns-in_err-h-clause-given g c =
    let p = err_from_is_err_and c.from_residual-in_err-h.result c.from_residual-in_err-h.ensures.1 in
    rw (p.1, p.2) (refused_header _ c.in_ok-count.ensures.gave _ _ c.in_ok-count.ensures.first.within c.in_err-h.ensures.err)

pub returns-clause-given : goal.returns-clause-given
returns-clause-given g c = restored_by (behind_more _ c.in_ok-count.ensures.gave) _ c.restore_behind.ensures.ends.given

pub restore_behind-requires-clause-begun : goal.restore_behind-requires-clause-begun
restore_behind-requires-clause-begun g c = record { begun = c.in_ok-h.ensures.ok; few = c.in_ok-count.ensures.first.within; ended = λ few. let less : c.in_ok-count.count < 24 = (omega (arith, few, length-take-le c.in_ok-count.count c.read_into.new.buf (omega (arith, c.in_ok-count.ensures.bound, c.read_into.auto.buf)))) in record { at_end = c.in_ok-count.ensures.end less; told = c.in_ok-count.ensures.ended less } }

pub returns-clause-outcome : goal.returns-clause-outcome
returns-clause-outcome g c = search (rules, restored_known, good_of_prefix)
