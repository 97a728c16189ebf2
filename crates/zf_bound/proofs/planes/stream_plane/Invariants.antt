use Rattle.std.proofs.Common.{◌≡◌, ◌≤◌, map, length}
use Rattle.zf_spec.{specs.Grid.{upto}, specs.Stream.{to_bits}}
use Rattle.zf_bits.specs.Reader.{rest}
use Rattle.zf_index.specs.Spans.{code_in}
use Rattle.zf_bound.specs.{Bounds.{plane_of}, Spans.{AreFrom}}
use Rattle.zf_bound.proofs.planes.stream_plane.Given as goal

abbrev pub invariant-loop-b : goal.invariant-loop-b
invariant-loop-b g l = record {
  so_far : l.plane ≡ plane_of g.T.Lane.width (length l.h.shape) (map (code_in l.index (to_bits l.file)) (upto l.b));
  most : l.plane ≤ g.T.Lane.WIDTH;
  room : l.excerpt.room ≡ l.fn.excerpt.room;
  bits : AreFrom l.from (to_bits l.file) (rest l.excerpt.reader);
}
