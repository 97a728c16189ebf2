use Rattle.std.proofs.Common.{◌≡◌, ◌∙◌, max, length, rules}
use Rattle.zf_spec.specs.Stream.{to_bits}
use Rattle.zf_block.specs.WholePlanes.{rate_whole_from}
use Rattle.zf_index.specs.Spans.{code_in}
use Rattle.zf_bound.proofs.Cuts.{plane_of-more}
use Rattle.zf_bound.proofs.planes.stream_plane.Goals as goal

pub loop-b-preserved : goal.loop-b-preserved
loop-b-preserved g c =
    let w = g.T.Lane.width in
    let d = length c.args.h.now.shape in
    let code = code_in c.args.index.now (to_bits c.args.file.now) in
    let greater : c.code_plane-plane.result ≡ max c.loop-b.plane (rate_whole_from w d (code c.loop-b.b)) = search rules in
    record {
      so_far = greater ∙ plane_of-more w d code c.loop-b.b c.loop-b.plane c.loop-b.invariant.so_far;
      most = c.code_plane-plane.ensures.bound;
      room = c.see_code-from.ensures.room ∙ c.loop-b.invariant.room;
      bits = c.see_code-from.ensures.bits;
    }
