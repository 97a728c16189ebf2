use Rattle.std.proofs.Common.{[], refl, arith}
use Rattle.zf_planes.{specs.Lanes.{low_planes}, proofs.Lanes.{no_lanes_below}, proofs.Coming.{comes_none}}
use Rattle.zf_planes.proofs.LanesAhead.{in_view}
use Rattle.zf_planes.proofs.four_reading.read_lone.Goals as goal

pub returns-then-not-begins_lone-clause-read : goal.returns-then-not-begins_lone-clause-read
unfolding low_planes
returns-then-not-begins_lone-clause-read c = record { fits = omega arith; below = no_lanes_below 0 4; comes = comes_none [] refl (record { enough = omega arith; place = omega arith; all = refl; spent = omega arith }) }

pub returns-clause-read : goal.returns-clause-read
returns-clause-read c =
    let lone = c.lone_in_sight-lone.ensures in
    let now = c.args.cursor.now in
    in_view c.args.most now.bits now.count _ _ now.window (omega arith) lone.code lone.len lone.fits lone.below (omega (arith, lone.above, lone.reached)) c.pass.ensures.taken
