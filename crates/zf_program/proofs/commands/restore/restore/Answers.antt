use Rattle.std.proofs.Common.{Err, ap, sym, refl, subst}
use Rattle.zf_parse.{specs.Parsing.{restore_answer, restored_text}, specs.ReadStreams.{HasGoodHeader}}
use Rattle.zf_words.specs.declared.command.Command.TheVariants.{Restore}
use Rattle.zf_program.specs.Faults.{status_of, fault_status}
use Rattle.zf_program.specs.declared.status.Status.TheVariants.{Done}
use Rattle.zf_program.proofs.Streaming.{IsStreaming-restore, Streams-by, Told-done, Behaves-done, Behaves-fault, restore_prefix, nothing_written, one_stream, one_stream-good, untold_fault, read_named, write_named}
use Rattle.zf_program.proofs.commands.restore.restore.Goals as goal
use Rattle.zf_program.{specs.Steps.{Gave}, proofs.Stepping.{Gave-whole}}

pub returns-in-Ok : goal.returns-in-Ok
returns-in-Ok g c =
    let call = c.in-Ok.ensures in
    let done = call.outcome.ok in
    Streams-by g.S.Source g.O.Sink Restore Done refl refl refl call.seen call.source.cause call.sink.cause call.source.sure (λ told. absurd (cc)) (λ fault. absurd (cc)) (λ fault. absurd (cc))
    (λ work. Told-done Restore (Gave g.S.Source Restore _ _) _ _ call.given.ok.bytes IsStreaming-restore refl (Gave-whole g.S.Source Restore _ _ _ refl call.given.ok.given call.ended) (ap status_of (sym call.given.ok.good)) call.given.ok.written)
    (λ files. Behaves-done Restore done.bytes _ _ _ _ files IsStreaming-restore (ap status_of (sym done.good)) done.taken done.ended done.written)

pub returns-in-Err : goal.returns-in-Err
returns-in-Err g c =
    let e = c.in-Err.fault in
    let call = c.in-Err.ensures in
    let done = call.outcome in
    rw c.from.ensures (Streams-by g.S.Source g.O.Sink Restore (fault_status e) refl refl refl call.seen call.source.cause call.sink.cause call.source.sure (λ told. absurd (cc)) (λ fault. ap Err (read_named e fault)) (λ fault. ap Err (write_named e fault))
    (untold_fault e) (λ files. Behaves-fault Restore restore_answer e one_stream done.err.bytes _ _ _ _ files IsStreaming-restore (λ w. refl) done.answer done.possible one_stream-good
    (λ input exposed memory. subst HasGoodHeader exposed (done.memory (ap Err memory))) done.err.taken
    (λ w. restore_prefix e (restored_text done.err.bytes) _ _ done.err.written (λ before. nothing_written _ _ (done.unwritten before)))))
