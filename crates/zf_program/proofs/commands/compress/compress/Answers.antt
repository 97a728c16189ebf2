use Rattle.std.proofs.Common.{[], Err, ap, sym, refl}
use Rattle.zf_parse.specs.Raw.{compress_answer, stream_text}
use Rattle.zf_words.specs.declared.command.Command.TheVariants.{Compress}
use Rattle.zf_program.{specs.declared.status.Status.TheVariants.{Done}, specs.Faults.{status_of, fault_status}}
use Rattle.zf_program.proofs.Streaming.{IsStreaming-compress, Streams-by, Told-done, Behaves-done, Behaves-fault, compress_prefix, untold_fault, read_named, write_named}
use Rattle.zf_program.{specs.Steps.{Gave}, proofs.Stepping.{Gave-whole}}
use Rattle.zf_program.proofs.commands.compress.compress.Goals as goal

pub returns-in-Ok : goal.returns-in-Ok
returns-in-Ok g c =
    let command = Compress c.args.h in
    let is = IsStreaming-compress c.args.h in
    let call = c.in-Ok.ensures in
    let done = call.outcome.ok in
    Streams-by g.S.Source g.O.Sink command Done refl refl refl call.seen call.source.cause call.sink.cause call.source.sure (λ told. absurd (cc)) (λ fault. absurd (cc)) (λ fault. absurd (cc))
    (λ work. Told-done command (Gave g.S.Source command _ _) _ _ call.given.ok.bytes is refl (Gave-whole g.S.Source command _ _ _ refl call.given.ok.given call.ended) (ap status_of (sym call.given.ok.good)) call.given.ok.written)
    (λ files. Behaves-done command done.bytes _ _ _ _ files is (ap status_of (sym done.good)) done.taken done.ended done.written)

pub returns-in-Err : goal.returns-in-Err
returns-in-Err g c =
    let command = Compress c.args.h in
    let is = IsStreaming-compress c.args.h in
    let e = c.in-Err.fault in
    let call = c.in-Err.ensures in
    let done = call.outcome in
    rw c.from.ensures (Streams-by g.S.Source g.O.Sink command (fault_status e) refl refl refl call.seen call.source.cause call.sink.cause call.source.sure (λ told. absurd (cc)) (λ fault. ap Err (read_named e fault)) (λ fault. ap Err (write_named e fault))
    (untold_fault e) (λ files. Behaves-fault command (compress_answer c.args.h) e [] done.err.bytes _ _ _ _ files is (λ w. refl) done.answer done.possible tt (λ input exposed memory. tt) done.err.taken
    (λ w. compress_prefix e (stream_text c.args.h done.err.bytes) _ _ done.err.written (λ starved. done.unwritten (ap Err starved)))))
