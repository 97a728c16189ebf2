use Rattle.std.proofs.Common.{rules, refl, ap, ◌∙◌}
use Rattle.zf_block.proofs.Decoded.{passes_block, lacks_block}
use Rattle.zf_block.proofs.codec.read_block.Goals as goal

pub returns-in_err-read : goal.returns-in_err-read
returns-in_err-read g c = search (rules, lacks_block)

pub returns : goal.returns
returns g c =
    let d = c.args.d in
    let code = c.args.code.now in
    let back = g.C.BlockCode.back d in
    let read = c.in_ok-read.ensures.1 in (
      tt,
      passes_block (g.C.BlockCode.len_at code) (g.C.BlockCode.planes_at code) c.args.reader.now c.read.new.reader d g.row.N c.requires.size
          g.T.Lane.width back _ read.0 _ read.1 (c.inverse.ensures ∙ ap back (c.from_planes.ensures ∙ rw c.requires.size refl)),
    )
