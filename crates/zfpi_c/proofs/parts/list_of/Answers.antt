use Rattle.std.proofs.Common.{rules, ◌≡◌, sym, ap, subst, ◌∙◌, ◌*◌, ◌^◌, ◌≤◌, List, length, map, mul_assoc, arith}
use Rattle.std.proofs.lemmas.List.{length-map, take_at}
use Rattle.zf_spec.specs.Stream.{raw}
use Rattle.zf_part.specs.Blocks.{AreBlocksOf}
use Rattle.zfpi_c.proofs.Written.{wrote_as, some_bytes, values_fit}
use Rattle.zfpi_c.proofs.parts.list_of.Goals as goal

pub has_room-requires : goal.has_room-requires
has_room-requires g c = record { some = some_bytes c.dims.result c.block_len-size.result c.value_len.result c.block_len-size.ensures.value c.value_len.ensures.some }

pub put_over-requires : goal.put_over-requires
put_over-requires g c =
    let n = length c.args.list.now in
    let vs = c.read_blocks.new.values in
    let size : c.block_len-size.result ≡ 4 ^ length c.args.h.now.shape = c.block_len-size.ensures.value ∙ ap (λ d. 4 ^ d) c.dims.ensures.value in
    let count : length vs ≡ n * 4 ^ length c.args.h.now.shape = sym (length-map vs g.T.Lane.value) ∙ c.in_ok-read_blocks.ensures.blocks.count in
    let long : length vs ≡ c.in_ok-values.values.len = count ∙ sym (c.in_ok-values.ensures.len ∙ ap (λ s. n * s) size) in
    let is : c.deref.result.now ≡ vs = c.deref.ensures.value ∙ take_at vs _ c.in_ok-values.values.len long in
    let fits : n * (c.block_len-size.result * c.value_len.result) ≤ length c.args.out.now = search rules in
    record {
      room = values_fit (length c.deref.result.now) (n * c.block_len-size.result) _ c.value_len.result (length c.args.out.now)
          (ap length is ∙ (long ∙ c.in_ok-values.ensures.len)) (sym c.value_len.ensures.value) (omega (arith, fits, mul_assoc n c.block_len-size.result c.value_len.result));
    }

pub returns-clause-ok : goal.returns-clause-ok
returns-clause-ok g c =
    let n = length c.args.list.now in
    let vs = c.read_blocks.new.values in
    let size : c.block_len-size.result ≡ 4 ^ length c.args.h.now.shape = c.block_len-size.ensures.value ∙ ap (λ d. 4 ^ d) c.dims.ensures.value in
    let count : length vs ≡ n * 4 ^ length c.args.h.now.shape = sym (length-map vs g.T.Lane.value) ∙ c.in_ok-read_blocks.ensures.blocks.count in
    let long : length vs ≡ c.in_ok-values.values.len = count ∙ sym (c.in_ok-values.ensures.len ∙ ap (λ s. n * s) size) in
    let is : c.deref.result.now ≡ vs = c.deref.ensures.value ∙ take_at vs _ c.in_ok-values.values.len long in
    let xs = map g.T.Lane.value c.deref.result.now in
    wrote_as (λ text text_is. record {
      there = c.requires.in_array;
      values = xs;
      are = subst (λ (ys : List _). AreBlocksOf c.args.stream.now c.args.h.now c.args.list.now (map g.T.Lane.value ys)) (sym is) c.in_ok-read_blocks.ensures.blocks;
      bytes = text_is ∙ ap (λ w. raw w xs) c.requires.same_type;
    }) c.put_over.ensures
