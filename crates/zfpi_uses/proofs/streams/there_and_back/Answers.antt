use Rattle.std.{proofs.Common.{◌≡◌, ◌<◌, All, ap, sym, subst, ◌∙◌}, proofs.lemmas.Result.{IfOk-weaker}}
use Rattle.std.proofs.lemmas.List.Elements.{All-from_get_or}
use Rattle.zf_header.specs.HeaderBits.{IsMode, IsHeader}
use Rattle.zf_parse.{specs.Parsing.{restored_text}, proofs.StreamsBack.{text-reversible_text}}
use Rattle.zfpi_uses.proofs.streams.there_and_back.Goals as goal

pub returns : goal.returns
returns c =
    let h = c.args.header.now in
    let raw = c.args.raw.now in
    let stream = c.bytes.result.now in
    let header : IsHeader h = record { shape = c.dims-dims.ensures.shape; mode = subst IsMode (sym c.requires) tt } in
    let small : All (λ b. b < 256) raw = All-from_get_or (λ b. b < 256) raw 0 (λ i within. (c.type_inv.raw i).fits) in
    let is : restored_text stream ≡ raw =
    ap restored_text (c.bytes.ensures ∙ c.in_ok-stream.ensures.stream) ∙ text-reversible_text h raw header c.requires c.in_ok-stream.ensures.whole small in
    record { back = IfOk-weaker c.unpacked.result (λ sink. sink.written ≡ restored_text stream) (λ sink. sink.written ≡ raw) (λ sink same. same ∙ is) c.unpacked.ensures }
