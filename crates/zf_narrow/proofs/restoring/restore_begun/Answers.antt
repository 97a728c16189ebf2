use Rattle.std.proofs.Common.{refl, sym, ap, ◌∙◌, Ok}
use Rattle.zf_narrow.{specs.Promoting.{listed}}
use Rattle.zf_narrow.proofs.Restored.{demotes, restored_as, ends_good, ends_unsettled, ends_other, ends_refused}
use Rattle.zf_narrow.proofs.Restored.{given_as, given_good, given_unsettled, given_other, given_refused}
use Rattle.zf_narrow.proofs.restoring.restore_begun.Goals as goal

pub returns-in-Ok-clause-outcome : goal.returns-in-Ok-clause-outcome
returns-in-Ok-clause-outcome g c =
    let sink = c.settle.new.self in
    let out_is = c.out-1.given.1 (sym (c.settle.ensures.same_sink.0 ∙ ap (λ (q : _). q.0) c.restore_where.ensures.sink.same)) in
    let has = demotes c.args.n _ _ (g.O.Sink.contents c.args.out.now) (g.O.Sink.contents sink.out.now) sink.demotion sink.same_type c.requires.narrow c.requires.start sink.written in
    let done = restored_as _ _ (ap Ok c.in-Ok-true.field-0-test) c.new.ensures.taken (sym c.settle.ensures.taken) c.in-Ok-true.ensures.outcome in
    rw out_is (ends_good c.args.n has (ap listed c.in-Ok.ensures.settled) done)

pub returns-in-Ok-clause-given : goal.returns-in-Ok-clause-given
returns-in-Ok-clause-given g c =
    let sink = c.settle.new.self in
    let out_is = c.out-1.given.1 (sym (c.settle.ensures.same_sink.0 ∙ ap (λ (q : _). q.0) c.restore_where.ensures.sink.same)) in
    let has = demotes c.args.n _ _ (g.O.Sink.contents c.args.out.now) (g.O.Sink.contents sink.out.now) sink.demotion sink.same_type c.requires.narrow c.requires.start sink.written in
    let done = given_as _ (ap Ok c.in-Ok-true.field-0-test) c.new.ensures.taken (sym c.settle.ensures.taken) c.in-Ok-true.ensures.given in
    rw out_is (given_good c.args.n has (ap listed c.in-Ok.ensures.settled) done)

pub returns-in-Err-settle-clause-outcome : goal.returns-in-Err-settle-clause-outcome
returns-in-Err-settle-clause-outcome g c =
    let sink = c.settle.new.self in
    let out_is = c.out-1.given.1 (sym (c.settle.ensures.same_sink.0 ∙ ap (λ (q : _). q.0) c.restore_where.ensures.sink.same)) in
    let has = demotes c.args.n _ _ (g.O.Sink.contents c.args.out.now) (g.O.Sink.contents sink.out.now) sink.demotion sink.same_type c.requires.narrow c.requires.start sink.written in
    let done = restored_as _ _ (ap Ok c.in-Ok-true.field-0-test) c.new.ensures.taken (sym c.settle.ensures.taken) c.in-Ok-true.ensures.outcome in
    rw out_is (ends_unsettled c.args.n has done)

pub returns-in-Err-settle-clause-given : goal.returns-in-Err-settle-clause-given
returns-in-Err-settle-clause-given g c =
    let sink = c.settle.new.self in
    let out_is = c.out-1.given.1 (sym (c.settle.ensures.same_sink.0 ∙ ap (λ (q : _). q.0) c.restore_where.ensures.sink.same)) in
    let has = demotes c.args.n _ _ (g.O.Sink.contents c.args.out.now) (g.O.Sink.contents sink.out.now) sink.demotion sink.same_type c.requires.narrow c.requires.start sink.written in
    let done = given_as _ (ap Ok c.in-Ok-true.field-0-test) c.new.ensures.taken (sym c.settle.ensures.taken) c.in-Ok-true.ensures.given in
    rw out_is (given_unsettled c.args.n has done)

pub returns-in-Ok-false-clause-outcome : goal.returns-in-Ok-false-clause-outcome
returns-in-Ok-false-clause-outcome g c =
    let sink = c.restore_where.new.out in
    let out_is = c.out-in-Ok-false-1.given.1 (sym (ap (λ (q : _). q.0) c.restore_where.ensures.sink.same)) in
    let has = demotes c.args.n _ _ (g.O.Sink.contents c.args.out.now) (g.O.Sink.contents sink.out.now) sink.demotion sink.same_type c.requires.narrow c.requires.start sink.written in
    let done = restored_as _ _ (ap Ok c.in-Ok-false.field-0-test) c.new.ensures.taken refl c.in-Ok-false.ensures.outcome in
    rw out_is (ends_other c.args.n has done)

pub returns-in-Ok-false-clause-given : goal.returns-in-Ok-false-clause-given
returns-in-Ok-false-clause-given g c =
    let sink = c.restore_where.new.out in
    let out_is = c.out-in-Ok-false-1.given.1 (sym (ap (λ (q : _). q.0) c.restore_where.ensures.sink.same)) in
    let has = demotes c.args.n _ _ (g.O.Sink.contents c.args.out.now) (g.O.Sink.contents sink.out.now) sink.demotion sink.same_type c.requires.narrow c.requires.start sink.written in
    let done = given_as _ (ap Ok c.in-Ok-false.field-0-test) c.new.ensures.taken refl c.in-Ok-false.ensures.given in
    rw out_is (given_other c.args.n has done)

pub returns-in-Err-clause-outcome : goal.returns-in-Err-clause-outcome
returns-in-Err-clause-outcome g c =
    let sink = c.restore_where.new.out in
    let out_is = c.in-Err.out-in-Err-restore_where-1-own.given.1 (sym (ap (λ (q : _). q.0) c.restore_where.ensures.sink.same)) in
    let has = demotes c.args.n _ _ (g.O.Sink.contents c.args.out.now) (g.O.Sink.contents sink.out.now) sink.demotion sink.same_type c.requires.narrow c.requires.start sink.written in
    let done = restored_as _ _ refl c.new.ensures.taken refl c.in-Err.ensures.outcome in
    rw out_is (ends_refused c.args.n has c.in-Err.fault done)

pub returns-in-Err-clause-given : goal.returns-in-Err-clause-given
returns-in-Err-clause-given g c =
    let sink = c.restore_where.new.out in
    let out_is = c.in-Err.out-in-Err-restore_where-1-own.given.1 (sym (ap (λ (q : _). q.0) c.restore_where.ensures.sink.same)) in
    let has = demotes c.args.n _ _ (g.O.Sink.contents c.args.out.now) (g.O.Sink.contents sink.out.now) sink.demotion sink.same_type c.requires.narrow c.requires.start sink.written in
    let done = given_as _ refl c.new.ensures.taken refl c.in-Err.ensures.given in
    rw out_is (given_refused c.args.n has c.in-Err.fault done)
