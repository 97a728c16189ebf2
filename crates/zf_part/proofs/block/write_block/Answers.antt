use Rattle.std.proofs.Common.{◌≡◌, ap, ◌∙◌, Bool, List, [], ◌++◌, length, map, arith}
use Rattle.zf_bits.specs.Writer.{Writer}
use Rattle.zf_spec.{specs.Grid.{extent_of}, proofs.Bytes.{length-to_bits}, proofs.BlockReading.{length-rate}}
use Rattle.zf_base.specs.Positions.{used_axes}
use Rattle.zf_index.specs.declared.span.Span.{Span}
use Rattle.zf_part.proofs.{Spans.{code_within}, Written.{says, code_means, put_there}}
use Rattle.zf_part.proofs.block.write_block.Goals as goal

pub put_run-requires-clause-within : goal.put_run-requires-clause-within
put_run-requires-clause-within g c =
    omega (
      arith,
      length-to_bits c.args.stream.now,
      ap (λ (x : Span). x.at) c.span.ensures,
      c.from-2.ensures,
      code_within c.args.stream.now c.args.h.now c.in_ok-index.index c.in_ok-index.ensures.ok c.in-Rate.bits c.in-Rate.is c.args.b c.requires.in_array,
    )

pub put_run-requires-clause-small : goal.put_run-requires-clause-small
put_run-requires-clause-small g c =
    omega (
      arith,
      c.in_ok-index.ensures.ok.small,
      ap (λ (x : Span). x.at) c.span.ensures,
      c.from-2.ensures,
      code_within c.args.stream.now c.args.h.now c.in_ok-index.index c.in_ok-index.ensures.ok c.in-Rate.bits c.in-Rate.is c.args.b c.requires.in_array,
    )

-- the code is that of the block, whatever the writer held before
code_is : (bits empty code : List Bool) → bits ≡ empty ++ code → empty ≡ [] → bits ≡ code
code_is bits empty code is none = is ∙ ap (λ (bs : List Bool). bs ++ code) none

writer_bits : (bits : List Bool) (v : Writer) → bits ≡ v.bits → v ≡ record { bits = []; room = 0 } → bits ≡ []
writer_bits bits v same is = same ∙ ap (λ (x : Writer). x.bits) is

pub put_run-requires-clause-code : goal.put_run-requires-clause-code
put_run-requires-clause-code g c =
    let is = code_is _ _ _ c.encode_rate.ensures.code.bits (writer_bits _ c.new-code.result c.in_ok-reserve.ensures.bits c.new-code.ensures) in
    let long : length c.encode_rate.new.out.bits ≡ c.in-Rate.bits = ap length is ∙ length-rate _ c.in-Rate.bits _ _ in
    omega (arith, c.words.ensures.len, long, c.from-2.ensures)

pub returns-clause-block : goal.returns-clause-block
returns-clause-block g c =
    let es = used_axes c.new-d.result.count c.extent-e.result.size in
    let at : es ≡ extent_of c.args.h.now.shape c.args.b = ap (λ d. used_axes d c.extent-e.result.size) (c.new-d.ensures ∙ c.dims.ensures.value) ∙ c.extent-e.ensures.used_size in
    let is = code_is _ _ _ c.encode_rate.ensures.code.bits (writer_bits _ c.new-code.result c.in_ok-reserve.ensures.bits c.new-code.ensures) in
    let values = map g.T.Lane.value c.args.block.now in
    let meant = is ∙ code_means c.args.h.now c.args.b values c.in-Rate.bits c.in-Rate.is g.T.Lane.width es c.requires.stream.same_type at in
    let long : length c.encode_rate.new.out.bits ≡ c.in-Rate.bits = ap length is ∙ length-rate _ c.in-Rate.bits _ _ in
    let put = put_there _ _ _ _ _ _ _ _ c.put_run.ensures.bits (ap (λ (x : Span). x.at) c.span.ensures) c.from-2.ensures c.words.ensures.bits long in
    says c.args.stream.now c.put_run.new.bytes c.args.h.now c.in_ok-index.index c.in_ok-index.ensures.ok c.requires.stream.header c.in-Rate.bits c.in-Rate.is c.args.b c.requires.in_array
    c.encode_rate.new.out.bits long put values meant c.put_run.ensures.count
