use Rattle.std.proofs.Common.{◌≡◌, sym, ◌∙◌, arith}
use Rattle.zf_base.{specs.Positions.{with_unused}, proofs.Extents.{used_size, IsExtent-of_block}}
use Rattle.zf_spec.specs.Grid.{extent_of}
use Rattle.zf_pad.proofs.FirstRow.{first_origin, first_size}
use Rattle.zf_pad.proofs.array_block.part_of.Goals as goal

pub part_of_first_row-requires : goal.part_of_first_row-requires
part_of_first_row-requires c = omega arith

pub returns-then-b-div_ceil : goal.returns-then-b-div_ceil
returns-then-b-div_ceil c =
    let part = c.part_of_first_row.result in
    let size : part.size ≡ with_unused 1 (extent_of c.args.shape.now c.args.b) = c.part_of_first_row.ensures.size ∙ sym (first_size c.args.shape.now c.args.b c.dims-dims.ensures.shape (omega arith)) in
    record {
      origin = c.part_of_first_row.ensures.origin ∙ sym (first_origin c.args.shape.now c.args.b c.dims-dims.ensures.shape (omega arith));
      size = size;
      extent = IsExtent-of_block c.args.shape.now c.args.b part.size c.dims-dims.ensures.shape size part.origin c.requires;
      used_size = used_size c.args.shape.now c.args.b part.size c.dims-dims.ensures.shape size;
    }
