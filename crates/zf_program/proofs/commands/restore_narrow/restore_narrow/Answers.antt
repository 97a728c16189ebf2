use Rattle.std.proofs.Common.{[], Err, ap, sym, refl, subst}
use Rattle.zf_dev.proofs.Appending.{AppendsPrefix-all}
use Rattle.zf_parse.specs.ReadStreams.{HasGoodHeader}
use Rattle.zf_narrow.specs.Texts.{narrow_restored}
use Rattle.zf_words.specs.declared.command.Command.TheVariants.{RestoreNarrow}
use Rattle.zf_program.specs.declared.status.Status.TheVariants.{Done}
use Rattle.zf_program.specs.Faults.{narrow_status_of, narrow_status}
use Rattle.zf_program.proofs.Streaming.{IsStreaming-restore_narrow, Streams-by, Told-done, Behaves-done, Behaves-narrow_fault, narrow_prefix, untold_narrow, narrow_read_named, narrow_write_named}
use Rattle.zf_program.proofs.commands.restore_narrow.restore_narrow.Goals as goal
use Rattle.zf_program.{specs.Steps.{Gave}, proofs.Stepping.{Gave-whole}}

pub returns-in-Ok : goal.returns-in-Ok
returns-in-Ok g c =
    let command = RestoreNarrow c.args.narrow in
    let is = IsStreaming-restore_narrow c.args.narrow in
    let call = c.in-Ok.ensures in
    let done = call.outcome.ok in
    Streams-by g.S.Source g.O.Sink command Done refl refl refl call.seen call.source.cause call.sink.cause call.source.sure (λ told. absurd (cc)) (λ fault. absurd (cc)) (λ fault. absurd (cc))
    (λ work. Told-done command (Gave g.S.Source command _ _) _ _ call.given.ok.bytes is refl (Gave-whole g.S.Source command _ _ _ refl call.given.ok.given call.ended) (ap narrow_status_of (sym call.given.ok.good)) call.given.ok.written)
    (λ files. Behaves-done command done.bytes _ _ _ _ files is (ap narrow_status_of (sym done.good)) done.taken done.ended done.written)

pub returns-in-Err : goal.returns-in-Err
returns-in-Err g c =
    let n = c.args.narrow in
    let e = c.in-Err.fault in
    let call = c.in-Err.ensures in
    let done = call.outcome in
    rw c.from.ensures (Streams-by g.S.Source g.O.Sink (RestoreNarrow n) (narrow_status e) refl refl refl call.seen call.source.cause call.sink.cause call.source.sure (λ told. absurd (cc)) (λ fault. ap Err (narrow_read_named e fault)) (λ fault. ap Err (narrow_write_named e fault))
    (untold_narrow e) (λ files. Behaves-narrow_fault n e done.err.bytes _ _ _ _ files done.answer done.possible (λ not_narrow. done.other (ap Err not_narrow))
    (λ input exposed memory. subst HasGoodHeader exposed (done.memory (ap Err memory))) done.err.taken
    (narrow_prefix e (narrow_restored n done.err.bytes) _ _ done.err.written (λ before. AppendsPrefix-all _ _ [] (done.unwritten before)))))
