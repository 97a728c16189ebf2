use Rattle.std.proofs.Common.{refl, ◌∙◌, ap, subst, Err, arith}
use Rattle.zf_stream.specs.Headed.{LacksHeader}
use Rattle.zf_words.specs.declared.command.Command.TheVariants.{Info}
use Rattle.zf_program.specs.Faults.{fault_status}
use Rattle.zf_program.specs.declared.status.Status.TheVariants.{Done, WriteFault}
use Rattle.zf_program.proofs.Streaming.{Streams-by, untold_fault, read_named, write_named}
use Rattle.zf_program.proofs.Heading.{Told-line, Behaves-line, Behaves-cut_line, Behaves-lacks}
use Rattle.zf_program.proofs.commands.info.info.Goals as goal
use Rattle.zf_program.{specs.Steps.{Gave}, proofs.Stepping.{Gave-part, untold}}

pub returns-in-Ok-write_all : goal.returns-in-Ok-write_all
returns-in-Ok-write_all g c =
    let call = c.in-Ok.ensures.source in
    let line = c.as_bytes.ensures.value ∙ (c.as_str.ensures.value ∙ c.info_line-line.ensures) in
    Streams-by g.S.Source g.O.Sink Info Done refl refl refl c.read_header.ensures.seen call.cause c.write_all.ensures.cause call.sure (λ told. c.read_header.ensures.still_exact) (λ fault. absurd (cc)) (λ fault. absurd (cc))
    (λ work. Told-line c.in-Ok.header c.in-Ok.bits c.as_bytes.result.now _ (Gave g.S.Source Info _ _) _ _ (λ bytes given. Gave-part g.S.Source Info _ _ bytes refl refl given) c.in-Ok.ensures.given line c.in-Ok-write_all.ensures.all)
    (λ files. Behaves-line c.in-Ok.header c.in-Ok.bits c.as_bytes.result.now _ _ _ _ files c.in-Ok.ensures.ok line c.in-Ok-write_all.ensures.all)

pub returns-in-Err-write_all : goal.returns-in-Err-write_all
returns-in-Err-write_all g c =
    let call = c.in-Ok.ensures.source in
    let line = c.as_bytes.ensures.value ∙ (c.as_str.ensures.value ∙ c.info_line-line.ensures) in
    Streams-by g.S.Source g.O.Sink Info WriteFault refl refl refl c.read_header.ensures.seen call.cause c.in-Err-write_all.ensures.cause call.sure (λ told. c.read_header.ensures.still_exact) (λ fault. absurd (cc)) (λ fault. refl)
    (untold WriteFault refl) (λ files. Behaves-cut_line c.in-Ok.header c.in-Ok.bits c.as_bytes.result.now _ _ _ _ files c.in-Ok.ensures.ok line c.write_all.ensures.prefix)

pub returns-in-Err : goal.returns-in-Err
returns-in-Err g c =
    let e = c.in-Err.fault in
    let call = c.in-Err.ensures.source in
    rw c.from.ensures (Streams-by g.S.Source g.O.Sink Info (fault_status e) {Write = ⊥} refl refl refl c.read_header.ensures.seen call.cause (omega arith, λ none. absurd none) call.sure (λ told. c.read_header.ensures.still_exact) (λ fault. ap Err (read_named e fault))
    (λ fault. subst (LacksHeader _ _) (write_named e fault) c.in-Err.ensures.err)
    (untold_fault e) (λ files. Behaves-lacks e _ _ _ files c.in-Err.ensures.err))
