use Rattle.std.proofs.Common.{◌≡◌, ℕ, ◌^◌, List, length, arith}
use Rattle.zf_spec.specs.Grid.{product}
use Rattle.zf_base.{specs.declared.position.Extent.{Extent}, specs.Positions.{IsExtent}}
use Rattle.zf_pad.{specs.declared.layout.Layout.{Layout}, specs.Layouts.{CanCopy}}
use Rattle.zf_pad.{specs.Rasters.{IsRasterBlock}, proofs.Blocks.{lies_within, one_to_one}}
use Rattle.zf_codec_tests.proofs.pad.read_and_write.Goals as goal

-- a block of an array can be copied out of its values and back
can_copy : (ns : List ℕ) (b d n m : ℕ) (layout : Layout) (e : Extent) → IsRasterBlock ns b layout e → IsExtent (length ns) e → d ≡ length ns → n ≡ product ns → m ≡ 4 ^ length ns → CanCopy layout e d n m
can_copy ns b d n m layout e here extent is values block =
    record {
      four_at_most = omega (arith, is, here.shape.four_at_most);
      extent = rw is extent;
      whole = rw is block;
      within = lies_within _ _ _ _ here _ (omega arith);
    }

pub gather-requires : goal.gather-requires
gather-requires g c =
    let here : IsRasterBlock c.args.shape.now c.args.b c.raster-layout.result c.extent-e.result = record {
      shape = c.dims.ensures.shape;
      in_array = c.requires.in_array;
      raster_layout = c.raster-layout.ensures;
      origin = c.extent-e.ensures.origin;
      size = c.extent-e.ensures.size;
    } in
    record { fits = can_copy _ _ _ _ _ _ _ here c.extent-e.ensures.extent c.dims.ensures.value (omega arith) (omega arith) }

pub scatter-requires : goal.scatter-requires
scatter-requires g c =
    let here : IsRasterBlock c.args.shape.now c.args.b c.raster-layout.result c.extent-e.result = record {
      shape = c.dims.ensures.shape;
      in_array = c.requires.in_array;
      raster_layout = c.raster-layout.ensures;
      origin = c.extent-e.ensures.origin;
      size = c.extent-e.ensures.size;
    } in
    record {
      fits = can_copy _ _ _ _ _ _ _ here c.extent-e.ensures.extent c.dims-3.ensures.value (omega arith) (omega arith);
      one_to_one = one_to_one _ _ _ _ here;
    }
