use Rattle.std.proofs.Common.{rules, ◌≡◌, ◌-◌, ◌^◌, ◌∷◌, pos, map, replicate, sym, ap, ◌∙◌, arith}
use Rattle.std.proofs.Math.Nat.{one-le-pow}
use Rattle.zf_spec.{specs.Codes.{planes}, specs.HeldPlanes.{planes_held}}
use Rattle.zf_bits.proofs.Appending.{Appends-same}
use Rattle.zf_block.proofs.Sizes.{rows_whole}
use Rattle.zf_block.proofs.codec.write_block.Goals as goal

pub bounds-block-0 : goal.bounds-block-0
bounds-block-0 g c = omega (arith, c.requires.block.1, one-le-pow c.args.d 4 (omega arith))

pub is_all-requires : goal.is_all-requires
is_all-requires g c = record { rows = rows_whole c.args.d _ c.requires.block.0.0 c.requires.block.0.1 c.requires.block.1 }

pub returns-then-keeps_first : goal.returns-then-keeps_first
returns-then-keeps_first g c =
    let d = c.args.d in
    let w = g.T.Lane.width in
    let v = g.T.Lane.value c.index-block-0.result in
    let forth = g.C.BlockCode.forth d in
    let code_of = g.C.BlockCode.code_of c.args.code.now in
    let held = map g.P.Plane.words c.to_planes_of_first.new.planes in
    let all : map g.T.Lane.value c.args.block.now ≡ replicate (4 ^ d) v = c.is_all.ensures (search rules) ∙ ap (λ n. replicate n v) c.requires.block.1 in
    let kept : forth (map g.T.Lane.value c.args.block.now) ≡ v ∷ replicate (4 ^ d - 1) (pos 0) = ap forth all ∙ c.keeps_first.ensures (search rules) d c.requires.block.0 in
    Appends-same c.write.ensures
    (ap (λ n. code_of (planes_held n held)) c.requires.block.1 ∙ ap code_of c.to_planes_of_first.ensures.0 ∙ ap (λ vs. code_of (planes w d vs)) (sym kept))

pub returns : goal.returns
returns g c =
    let code_of = g.C.BlockCode.code_of c.args.code.now in
    Appends-same c.write_digits.ensures
    (ap code_of (c.to_digits.ensures ∙ ap (planes g.T.Lane.width c.args.d) c.forward.ensures))
