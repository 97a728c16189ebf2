use Rattle.std.proofs.Common.{◌≡◌, ap, subst, ◌∙◌, ◌-◌, ◌+◌, ◌*◌, ◌^◌, ◌<◌, ℤ, List, length, get_or, arith, rules}
use Rattle.std.proofs.lemmas.List.{length-map}
use Rattle.zf_header.specs.declared.header.Header.{Header}
use Rattle.zf_part.specs.Blocks.{IsBlockOf}
use Rattle.zf_part.proofs.Cutting.{blocks_put, part_long, value_line}
use Rattle.zf_part.proofs.block.read_all.Goals as goal

pub loop-k-preserved : goal.loop-k-preserved
loop-k-preserved g c =
    let r = c.args.reading.now in
    let k = c.loop-k.k in
    let size : c.block_len-size.result ≡ 4 ^ length r.header.shape =
    c.block_len-size.ensures.value ∙ ap (λ d. 4 ^ d) (c.dims.ensures.value ∙ ap (λ (h : Header). length h.shape) c.header.ensures) in
    let lt : k < length c.args.list.now = c.loop-k-test.true in
    let all = c.loop-k.invariant.count ∙ c.requires.whole in
    let at = k * c.block_len-size.result in
    let len_is : at + c.block_len-size.result - at ≡ 4 ^ length r.header.shape = omega (arith, size) in
    record {
      room = record { enough = omega (arith, c.loop-k.invariant.room.enough, c.read.auto.words); few = omega (arith, c.loop-k.invariant.room.few, c.read.auto.words) };
      count = search rules;
      blocks = λ right. blocks_put g.T.Lane.value r.bytes r.header c.loop-k.values c.read.new.block k (length c.args.list.now) at _ (ap (λ n. k * n) size) len_is (c.read.ensures.whole ∙ part_long (4 ^ length r.header.shape) k (length c.args.list.now) at _ c.loop-k.values (ap (λ n. k * n) size) len_is lt all) lt all
          c.args.list.now (c.in_ok-read.ensures.found.some right) (c.loop-k.invariant.blocks right);
    }

pub returns : goal.returns
returns g c =
    let r = c.args.reading.now in
    let value = g.T.Lane.value in
    record {
      some = λ right. record {
        count = length-map c.loop-k.values value ∙ c.loop-k.invariant.count ∙ c.requires.whole;
        blocks = λ k lt. subst (λ (vs : List ℤ). IsBlockOf r.bytes r.header (get_or c.args.list.now k 0) vs) (value_line value (4 ^ length r.header.shape) k c.loop-k.values)
            (c.loop-k.invariant.blocks right k (omega (arith, lt, c.loop-k-test.false)));
      };
      none = tt;
    }
