use Rattle.std.proofs.Common.{rules, ◌≡◌, ◌^◌, length, ap, ◌∙◌, arith}
use Rattle.std.proofs.lemmas.List.{take_all, length-take-le}
use Rattle.zf_block.proofs.codec.encode_any.Goals as goal

pub returns-in-2 : goal.returns-in-2
returns-in-2 g c =
    let long : length c.args.block.now ≡ 16 = c.requires.block.0 ∙ ap (λ d. 4 ^ d) c.in-2.is in
    rw (c.in-2.is, ← take_all 16 c.args.block.now (omega (arith, long))) c.write_block.ensures

pub write_block-requires-in-3-clause-block : goal.write_block-requires-in-3-clause-block
write_block-requires-in-3-clause-block g c =
    let long : length c.args.block.now ≡ 64 = c.requires.block.0 ∙ ap (λ d. 4 ^ d) c.in-3.is in
    (search rules, length-take-le 64 c.args.block.now (omega (arith, long)))

pub returns-in-3 : goal.returns-in-3
returns-in-3 g c =
    let long : length c.args.block.now ≡ 64 = c.requires.block.0 ∙ ap (λ d. 4 ^ d) c.in-3.is in
    rw (c.in-3.is, ← take_all 64 c.args.block.now (omega (arith, long))) c.write_block-in-3.ensures

pub write_block-requires-in_default-clause-block : goal.write_block-requires-in_default-clause-block
write_block-requires-in_default-clause-block g c =
    let four : c.args.d.count ≡ 4 = omega (arith, c.requires.block.1, c.in_default) in
    let long : length c.args.block.now ≡ 256 = c.requires.block.0 ∙ ap (λ d. 4 ^ d) four in
    (search rules, length-take-le 256 c.args.block.now (omega (arith, long)))

pub returns-in_default : goal.returns-in_default
returns-in_default g c =
    let four : c.args.d.count ≡ 4 = omega (arith, c.requires.block.1, c.in_default) in
    let long : length c.args.block.now ≡ 256 = c.requires.block.0 ∙ ap (λ d. 4 ^ d) four in
    rw (four, ← take_all 256 c.args.block.now (omega (arith, long))) c.write_block-in_default.ensures

pub slice_bounds-write_block-end-in-3-2 : goal.slice_bounds-write_block-end-in-3-2
slice_bounds-write_block-end-in-3-2 g c =
    let long : length c.args.block.now ≡ 64 = c.requires.block.0 ∙ ap (λ d. 4 ^ d) c.in-3.is in
    omega (arith, length-take-le 64 c.args.block.now (omega (arith, long)))

pub slice_bounds-write_block-end-in_default-2 : goal.slice_bounds-write_block-end-in_default-2
slice_bounds-write_block-end-in_default-2 g c =
    let four : c.args.d.count ≡ 4 = omega (arith, c.requires.block.1, c.in_default) in
    let long : length c.args.block.now ≡ 256 = c.requires.block.0 ∙ ap (λ d. 4 ^ d) four in
    omega (arith, length-take-le 256 c.args.block.now (omega (arith, long)))
