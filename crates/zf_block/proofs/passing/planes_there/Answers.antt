use Rattle.std.proofs.Common.{◌≡◌, ◌+◌, ◌≤◌, false, ◌++◌, replicate, length, drop, arith}
use Rattle.zf_planes.proofs.Peeking.{zeros_ahead}
use Rattle.zf_block.specs.Passing.{AlongPlanes}
use Rattle.zf_block.proofs.PlanesPassed.{planes_start, planes_more, planes_short, zero_planes, planes_enough}
use Rattle.zf_block.proofs.passing.planes_there.Goals as goal

-- the zeros at the front
pub loop-i-init : goal.loop-i-init
loop-i-init c =
    let s = c.args.ahead.now in
    let z = c.min-zeros-2.result in
    let low : z ≤ c.args.most = omega (arith, c.min-zeros-2.ensures, c.min-zeros.ensures, c.from.ensures) in
    let there : z ≤ length s = omega (arith, c.min-zeros-2.ensures, c.left.ensures) in
    let window = c.peek.ensures z (omega (arith, low, c.requires.planes)) there in
    let zeros = zeros_ahead s c.peek.result z z window c.peek.type_inv (omega (arith, c.min-zeros-2.ensures, c.min-zeros.ensures, c.from.ensures)) (omega arith) in
    let start : AlongPlanes c.args.most c.args.size 0 0 s (replicate z false ++ drop z s) = rw (← zeros) (planes_start c.args.most c.args.size s) in
    let count : 0 + z ≡ z = omega arith in
    let along = rw count at (zero_planes z (drop z s) c.requires.some (omega (arith, low)) start) in
    record { along = rw (c.skip.ensures, c.from-2.ensures) along; in_plane = omega arith }

pub returns-then-is_enough-clause-within : goal.returns-then-is_enough-clause-within
returns-then-is_enough-clause-within c =
    let now = c.loop-i.invariant in
    planes_enough now.along (omega (arith, c.loop-i-test.true)) now.in_plane (omega (arith, c.if-is_enough.ensures, c.left-in-loop-i.ensures))

pub returns-in_default-clause-no_more : goal.returns-in_default-clause-no_more
returns-in_default-clause-no_more c below = planes_short c.loop-i.invariant.along below c.in_default.ensures.short

pub loop-i-preserved : goal.loop-i-preserved
loop-i-preserved c =
    let more = planes_more c.loop-i.invariant.along c.loop-i-test.true c.in-Some.ensures.fits in
    record { along = rw (c.in-Some.ensures.passed, c.in-Some.ensures.reached) more; in_plane = c.in-Some.ensures.within }
