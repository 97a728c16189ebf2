use Rattle.std.{proofs.Common.{rules, inl, inr, ◌<◌, ◌≡◌, ◌≢◌, arith}, proofs.lemmas.Result.{err_from_is_err_and}}
use Rattle.std.proofs.lemmas.List.{length-take-le}
use Rattle.zf_stream.proofs.TypedAnswers.{where_unread, where_header, where_other, where_failed, where_done}
use Rattle.zf_stream.proofs.TypedAnswers.{where_refused, where_no_header, where_given_other, where_given_failed, where_given_done}
use Rattle.zf_stream.proofs.restoring.restore_where.Goals as goal

pub returns-clause-seen : goal.returns-clause-seen
returns-clause-seen g c = search rules

pub returns-in_err-read-clause-outcome : goal.returns-in_err-read-clause-outcome
returns-in_err-read-clause-outcome g c = search (rules, err_from_is_err_and, where_unread)

pub returns-in_err-header-clause-outcome : goal.returns-in_err-header-clause-outcome
returns-in_err-header-clause-outcome g c =
    let p = err_from_is_err_and c.from_residual-in_err-header.result c.from_residual-in_err-header.ensures.1 in
    rw (p.1, p.2) (where_header c.args.wanted _ _ _ _ _ c.in_ok-read.ensures.first c.in_err-header.ensures.err)

pub returns-then-ne-clause-outcome : goal.returns-then-ne-clause-outcome
returns-then-ne-clause-outcome g c =
    let other : c.in_ok-header.header.ty ≢ c.args.wanted = search rules in
    where_other c.args.wanted _ c.in_ok-header.header c.in_ok-header.len _ _ c.in_ok-read.ensures.first c.in_ok-header.ensures.ok _ other

pub returns-in_err-read-clause-given : goal.returns-in_err-read-clause-given
returns-in_err-read-clause-given g c =
    let p = err_from_is_err_and c.from_residual.result c.from_residual.ensures.1 in
    let some = c.read_into.ensures.gave_some in
    rw (p.1, p.2) (where_refused c.args.wanted some.0 some.1 _ _ (inr (inl c.in_err-read.ensures.source.fault)))

pub returns-in_err-header-clause-given : goal.returns-in_err-header-clause-given
returns-in_err-header-clause-given g c =
    let p = err_from_is_err_and c.from_residual-in_err-header.result c.from_residual-in_err-header.ensures.1 in
    rw (p.1, p.2) (where_no_header c.args.wanted _ c.in_ok-read.ensures.gave _ _ c.in_err-header.ensures.err)

pub returns-then-ne-clause-given : goal.returns-then-ne-clause-given
returns-then-ne-clause-given g c =
    let other : c.in_ok-header.header.ty ≢ c.args.wanted = search rules in
    where_given_other c.args.wanted _ c.in_ok-read.ensures.gave _ c.in_ok-header.header c.in_ok-header.len c.in_ok-header.ensures.ok c.in_ok-read.ensures.first.within other

pub returns-in_err-restore_behind-clause-given : goal.returns-in_err-restore_behind-clause-given
returns-in_err-restore_behind-clause-given g c =
    let same : c.in_ok-header.header.ty ≡ c.args.wanted = search rules in
    let p = err_from_is_err_and c.from_residual-in_err-restore_behind.result c.from_residual-in_err-restore_behind.ensures.1 in
    rw (p.1, p.2) (where_given_failed c.args.wanted _ c.in_ok-read.ensures.gave c.in_ok-header.header c.in_ok-header.len c.in_ok-header.ensures.ok same _ c.in_err-restore_behind.ensures.ends.given)

pub returns-clause-given : goal.returns-clause-given
returns-clause-given g c =
    let same : c.in_ok-header.header.ty ≡ c.args.wanted = search rules in
    where_given_done c.args.wanted _ c.in_ok-read.ensures.gave c.in_ok-header.header c.in_ok-header.len c.in_ok-header.ensures.ok same c.in_ok-restore_behind.ensures.ends.given

pub restore_behind-requires-clause-begun : goal.restore_behind-requires-clause-begun
restore_behind-requires-clause-begun g c = record { begun = c.in_ok-header.ensures.ok; few = c.in_ok-read.ensures.first.within; ended = λ few. let less : c.in_ok-read.read < 24 = (omega (arith, few, length-take-le c.in_ok-read.read c.read_into.new.buf (omega (arith, c.in_ok-read.ensures.bound, c.read_into.auto.buf)))) in record { at_end = c.in_ok-read.ensures.end less; told = c.in_ok-read.ensures.ended less } }

pub returns-in_err-restore_behind-clause-outcome : goal.returns-in_err-restore_behind-clause-outcome
returns-in_err-restore_behind-clause-outcome g c =
    let same : c.in_ok-header.header.ty ≡ c.args.wanted = search rules in
    let p = err_from_is_err_and c.from_residual-in_err-restore_behind.result c.from_residual-in_err-restore_behind.ensures.1 in
    rw (p.1, p.2) (where_failed c.args.wanted _ c.in_ok-header.header c.in_ok-header.len _ _ c.in_ok-read.ensures.first c.in_ok-header.ensures.ok same _ c.in_err-restore_behind.ensures.ends.outcome)

pub returns-clause-outcome : goal.returns-clause-outcome
returns-clause-outcome g c =
    let same : c.in_ok-header.header.ty ≡ c.args.wanted = search rules in
    where_done c.args.wanted _ c.in_ok-header.header c.in_ok-header.len _ _ c.in_ok-read.ensures.first c.in_ok-header.ensures.ok same c.in_ok-restore_behind.ensures.ends.outcome
