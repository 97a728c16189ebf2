use Rattle.std.{proofs.lemmas.Grind.{common_steps}, proofs.Common.{rules, ◌≡◌, ◌^◌, pos, length, map, replicate, ap, sym, ◌∙◌, arith}}
use Rattle.std.proofs.lemmas.List.{with_items_is, places}
use Rattle.zf_spec.{specs.Grid.{fours, extent_of, block_of}, specs.Padding.{pad}, specs.Stream.{block_code}}
use Rattle.zf_bits.proofs.Appending.{Appends-same}
use Rattle.zf_base.proofs.Extents.{length-extent_of}
use Rattle.zf_header.specs.HeaderBits.{coding}
use Rattle.zf_stream.proofs.Padded.{code_of_padded}
use Rattle.zf_stream.proofs.encoding.write_code.Goals as goal

pub returns-clause-code : goal.returns-clause-code
returns-clause-code g c =
    let w = g.T.Lane.width in
    let mode = coding c.args.h.now.mode in
    let ns = c.args.h.now.shape in
    let es = extent_of ns c.args.b in
    let value = g.T.Lane.value in
    let here : c.deref_mut-2.result.now ≡ c.gather_block-part.new.block = search (rules, with_items_is, places) in
    Appends-same c.encode.ensures
    (ap (λ vs. block_code w mode (fours (length ns)) (map value vs)) here
    ∙ ap (block_code w mode (fours (length ns))) c.gather_block-part.ensures.padded
    ∙ ap (λ d. block_code w mode (fours d) (pad es (block_of ns (map value c.args.values.now) c.args.b))) (sym (length-extent_of ns c.args.b))
    ∙ code_of_padded w mode es (block_of ns (map value c.args.values.now) c.args.b))

pub returns-then-is_row_of_zeros-clause-code : goal.returns-then-is_row_of_zeros-clause-code
returns-then-is_row_of_zeros-clause-code g c =
    let w = g.T.Lane.width in
    let mode = coding c.args.h.now.mode in
    let d = length c.args.h.now.shape in
    let zeros = c.is_row_of_zeros.ensures in
    Appends-same c.write_zeros_reserved.ensures.bits
    (sym (ap (block_code w mode (extent_of c.args.h.now.shape c.args.b)) (zeros.zeros c.if-is_row_of_zeros.true)
    ∙ ap (λ es. block_code w mode es (replicate (4 ^ d) (pos 0))) (zeros.whole c.if-is_row_of_zeros.true)
    ∙ c.requires.zeros))

pub returns-clause-keeps : goal.returns-clause-keeps
returns-clause-keeps g c = grind (arith, common_steps)
