use Rattle.std.proofs.Common.{rules, ◌≡◌, sym, ap, ◌∙◌, ◌*◌, ◌^◌, ◌≤◌, length, map, take, arith}
use Rattle.std.proofs.lemmas.List.{length-map, length-take-le}
use Rattle.zf_spec.specs.Stream.{raw}
use Rattle.zfpi_c.proofs.Written.{wrote_as, values_fit, one_block}
use Rattle.zfpi_c.proofs.parts.block_by.Goals as goal

pub read_block-requires-clause-whole : goal.read_block-requires-clause-whole
read_block-requires-clause-whole g c =
    let size : c.block_len-size.result ≡ 4 ^ length c.args.h.now.shape = c.block_len-size.ensures.value ∙ ap (λ d. 4 ^ d) c.dims.ensures.value in
    length-take-le _ c.args.room.now (omega (arith, size, c.requires.room)) ∙ size

pub put_over-requires : goal.put_over-requires
put_over-requires g c =
    let size : c.block_len-size.result ≡ 4 ^ length c.args.h.now.shape = c.block_len-size.ensures.value ∙ ap (λ d. 4 ^ d) c.dims.ensures.value in
    let long : length (take c.block_len-size.result c.args.room.now) ≡ c.block_len-size.result = length-take-le _ c.args.room.now (omega (arith, size, c.requires.room)) in
    let count : length c.read_block.new.block ≡ c.block_len-size.result = search (rules, long) in
    let fits : c.block_len-size.result * c.value_len.result ≤ length c.args.out.now = search rules in
    record { room = values_fit (length c.read_block.new.block) c.block_len-size.result _ c.value_len.result (length c.args.out.now) count (sym c.value_len.ensures.value) fits }

pub returns-clause-ok : goal.returns-clause-ok
returns-clause-ok g c =
    let vs = map g.T.Lane.value c.read_block.new.block in
    let size : c.block_len-size.result ≡ 4 ^ length c.args.h.now.shape = c.block_len-size.ensures.value ∙ ap (λ d. 4 ^ d) c.dims.ensures.value in
    let long : length (take c.block_len-size.result c.args.room.now) ≡ c.block_len-size.result = length-take-le _ c.args.room.now (omega (arith, size, c.requires.room)) in
    let count : length c.read_block.new.block ≡ c.block_len-size.result = search (rules, long) in
    wrote_as (λ text text_is. record {
      there = search rules;
      values = vs;
      are = one_block c.args.stream.now c.args.h.now c.args.block vs (length-map c.read_block.new.block g.T.Lane.value ∙ (count ∙ size)) c.in_ok-read_block.ensures.block;
      bytes = text_is ∙ ap (λ w. raw w vs) c.requires.same_type;
    }) c.put_over.ensures
