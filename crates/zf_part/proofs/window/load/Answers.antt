use Rattle.std.proofs.Common.{◌≡◌, refl, ap, sym, subst, ◌∙◌, ◌-◌, ◌+◌, ◌*◌, ◌%◌, ◌^◌, ◌<◌, map, length, take, drop, arith, rules}
use borrow.Rule.Slice.PartMut.{put_mid}
use Rattle.zf_header.specs.declared.header.Header.{Header}
use Rattle.zf_part.specs.Blocks.{IsBlockOf}
use Rattle.zf_part.proofs.Cutting.{block_put, part_long, held_put}
use Rattle.zf_part.proofs.window.load.Goals as goal

pub returns-in_ok-read-clause-lines : goal.returns-in_ok-read-clause-lines
returns-in_ok-read-clause-lines g c =
    let r = c.args.reading.now in
    let n = length c.args.held.now in
    let j = c.args.b % n in
    let size : c.block_len-size.result ≡ 4 ^ length r.header.shape =
    c.block_len-size.ensures.value ∙ ap (λ d. 4 ^ d) (c.dims.ensures.value ∙ ap (λ (h : Header). length h.shape) c.header.ensures) in
    let lt : j < n = omega (arith, c.requires.lines.some) in
    let all = c.requires.lines.values in
    let at = j * c.block_len-size.result in
    let len_is : at + c.block_len-size.result - at ≡ 4 ^ length r.header.shape = omega (arith, size) in
    record {
      some = search rules;
      values = search rules;
      room = record { enough = omega (arith, c.requires.lines.room.enough, c.read.auto.words); few = omega (arith, c.requires.lines.room.few, c.read.auto.words) };
      known = λ right. held_put g.T.Lane.value r.bytes r.header c.args.lines.now c.read.new.block j n at _ (ap (λ m. j * m) size) len_is (c.read.ensures.whole ∙ part_long (4 ^ length r.header.shape) j n at _ c.args.lines.now (ap (λ m. j * m) size) len_is lt all) lt all
          c.args.held.now c.args.b refl (c.in_ok-read.ensures.found.some right) (c.requires.lines.known right);
    }

pub returns-in_ok-read-clause-block : goal.returns-in_ok-read-clause-block
returns-in_ok-read-clause-block g c = λ right.
    let r = c.args.reading.now in
    let n = length c.args.held.now in
    let j = c.args.b % n in
    let size : c.block_len-size.result ≡ 4 ^ length r.header.shape =
    c.block_len-size.ensures.value ∙ ap (λ d. 4 ^ d) (c.dims.ensures.value ∙ ap (λ (h : Header). length h.shape) c.header.ensures) in
    let lt : j < n = omega (arith, c.requires.lines.some) in
    let all = c.requires.lines.values in
    let at = j * c.block_len-size.result in
    let len_is : at + c.block_len-size.result - at ≡ 4 ^ length r.header.shape = omega (arith, size) in
    subst (λ m. IsBlockOf r.bytes r.header c.args.b (map g.T.Lane.value (take (4 ^ length r.header.shape) (drop (j * m) (put_mid at (at + c.block_len-size.result - at) c.args.lines.now c.read.new.block))))) (sym size)
    (block_put g.T.Lane.value r.bytes r.header c.args.lines.now c.read.new.block j n at _ (ap (λ m. j * m) size) len_is (c.read.ensures.whole ∙ part_long (4 ^ length r.header.shape) j n at _ c.args.lines.now (ap (λ m. j * m) size) len_is lt all) lt all c.args.b (c.in_ok-read.ensures.found.some right))
