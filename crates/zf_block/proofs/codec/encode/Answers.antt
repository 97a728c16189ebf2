use Rattle.std.proofs.Common.{rules, ◌≡◌, ◌^◌, pos, map, length, replicate, refl, ap, sym, ◌∙◌, arith}
use Rattle.std.proofs.lemmas.List.{take_all}
use Rattle.zf_spec.specs.Codes.{planes}
use Rattle.zf_bits.proofs.Appending.{Appends-same}
use Rattle.zf_block.proofs.Sizes.{rows_whole}
use Rattle.zf_block.proofs.codec.encode.Goals as goal

pub is_all-requires : goal.is_all-requires
is_all-requires g c = record { rows = rows_whole c.args.d.count _ c.args.d.range.0 c.args.d.range.1 c.requires.block }

pub returns-then-is_all : goal.returns-then-is_all
returns-then-is_all g c =
    let d = c.args.d.count in
    let zeros : map g.T.Lane.value c.args.block.now ≡ replicate (4 ^ d) (pos 0) = c.if-is_all.ensures (search rules) ∙ rw (c.requires.block, c.zero.ensures.value) refl in
    let coded = ap (λ vs. g.C.BlockCode.code_of c.args.code.now (planes g.T.Lane.width d (g.C.BlockCode.forth d vs))) zeros ∙ c.len_of_zeros.ensures.code in
    Appends-same c.write_zeros_reserved.ensures.bits (sym coded)

pub returns-then-d-eq1 : goal.returns-then-d-eq1
returns-then-d-eq1 g c =
    let long : length c.args.block.now ≡ 4 = c.requires.block ∙ ap (λ d. 4 ^ d) c.if-d-eq1.true in
    rw (c.if-d-eq1.true, ← take_all 4 c.args.block.now (omega (arith, long))) c.write_row.ensures
