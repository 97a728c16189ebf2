use Rattle.std.{proofs.Common.{sym, ap, rules}, proofs.lemmas.Result.{err_from_is_err_and}}
use Rattle.zf_dev.proofs.Devices.{Reads-told}
use Rattle.zf_stream.proofs.Answering.{nothing_given, prefix_from}
use Rattle.zf_stream.proofs.Endings.{no_memory, given_from, unread}
use Rattle.zf_stream.proofs.compressing.compress_as.Goals as goal

pub returns-in_err-values-clause-ends : goal.returns-in_err-values-clause-ends
returns-in_err-values-clause-ends g c =
    let p = err_from_is_err_and c.from_residual.result c.from_residual.ensures.1 in
    record {
      ends = record {
        outcome = rw (p.1, c.read_ahead.ensures.contents_stay) (no_memory c.args.h.now p.0 (g.S.Source.contents c.args.src.now) (g.O.Sink.contents c.args.out.now) p.2);
        given = search (rules, err_from_is_err_and, prefix_from, nothing_given);
      };
      ended = search (rules, err_from_is_err_and);
      source = search (rules, err_from_is_err_and, unread);
      sink = search (rules, err_from_is_err_and);
    }

pub write_stream-requires-clause-room : goal.write_stream-requires-clause-room
write_stream-requires-clause-room g c = search rules

pub returns-clause-ends : goal.returns-clause-ends
returns-clause-ends g c =
    let done = c.write_stream.ensures in
    let moved = c.src-1.given.1 (sym (ap (λ (q : _). q.0) done.source.same)) in
    rw moved
    (record {
      ends = record {
        outcome = rw (← c.read_ahead.ensures.contents_stay) done.ends.outcome;
        given = given_from c.read_ahead.ensures.ungiven done.ends.given;
      };
      ended = done.ended;
      source = Reads-told c.read_ahead.ensures.kept c.read_ahead.ensures.faults_stay c.read_ahead.ensures.sure (record { same = ap (λ (q : _). q.1) done.source.same; cause = done.source.cause; sure = done.source.sure });
      sink = done.sink;
    })
