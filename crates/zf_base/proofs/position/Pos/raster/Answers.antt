-- Each sum and product on the way is below the count of positions, which fits.
use Rattle.std.proofs.Common.{arith, ◌^◌}
use Rattle.zf_base.proofs.Boxes.{raster_steps}
use Rattle.zf_base.proofs.position.Pos.raster.Goals as goal

pub overflow_mul-result : goal.overflow_mul-result
overflow_mul-result c =
    omega (arith, raster_steps c.args.self.now c.args.at.now (2 ^ 64) c.requires.inside c.requires.fits)

pub overflow_add-result : goal.overflow_add-result
overflow_add-result c =
    omega (arith, raster_steps c.args.self.now c.args.at.now (2 ^ 64) c.requires.inside c.requires.fits)

pub overflow_mul-result-2 : goal.overflow_mul-result-2
overflow_mul-result-2 c =
    omega (arith, raster_steps c.args.self.now c.args.at.now (2 ^ 64) c.requires.inside c.requires.fits)

pub overflow_add-result-2 : goal.overflow_add-result-2
overflow_add-result-2 c =
    omega (arith, raster_steps c.args.self.now c.args.at.now (2 ^ 64) c.requires.inside c.requires.fits)

pub overflow_mul-result-3 : goal.overflow_mul-result-3
overflow_mul-result-3 c =
    omega (arith, raster_steps c.args.self.now c.args.at.now (2 ^ 64) c.requires.inside c.requires.fits)

pub overflow_add-result-3 : goal.overflow_add-result-3
overflow_add-result-3 c =
    omega (arith, raster_steps c.args.self.now c.args.at.now (2 ^ 64) c.requires.inside c.requires.fits)
