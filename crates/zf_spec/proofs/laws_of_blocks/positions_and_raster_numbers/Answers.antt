use Rattle.zf_spec.proofs.Raster.{is_inside-coordinates, raster-coordinates, raster_below, coordinates-raster}
use Rattle.zf_spec.proofs.laws_of_blocks.positions_and_raster_numbers.Goals as goal

pub returns : goal.returns
returns c = record { inside = is_inside-coordinates; number = raster-coordinates; below = raster_below; position = coordinates-raster }
