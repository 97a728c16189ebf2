use Rattle.std.proofs.Common.{◌≡◌, length, map, ap, ◌∙◌, arith}
use Rattle.std.proofs.lemmas.List.{take_all}
use Rattle.zf_spec.specs.Padding.{pad}
use Rattle.zf_spec.specs.Codes as codes
use Rattle.zf_base.specs.Positions.{used_axes}
use Rattle.zf_bits.proofs.Appending.{Appends-same}
use Rattle.zf_block.proofs.codec.encode_copy.Goals as goal

pub returns : goal.returns
returns g c =
    let d = c.args.d.count in
    let value = g.T.Lane.value in
    let copied : c.copy_from_slice.new.self ≡ c.args.block.now =
    c.copy_from_slice.ensures.after ∙ take_all (length c.args.padded.now) c.args.block.now (omega (arith, c.requires.copy, c.requires.part)) in
    Appends-same c.encode.ensures
    (ap (λ vs. g.C.BlockCode.code_of c.args.code.now (codes.planes g.T.Lane.width d (g.C.BlockCode.forth d vs)))
    (c.pad.ensures ∙ ap (λ vs. pad (used_axes d c.args.e.now.size) (map value vs)) copied))
