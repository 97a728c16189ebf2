use Rattle.std.proofs.Common.{arith}
use Rattle.zf_planes.{specs.Moves.{state, MovesOverSome}, proofs.Passing.{if_none}}
use Rattle.zf_planes.{proofs.LanesAhead.{at_end, in_sight}, proofs.Coming.{lack_of_one}}
use Rattle.zf_planes.proofs.four_reading.read_some.Goals as goal

pub returns-then-last-most-clause-read : goal.returns-then-last-most-clause-read
returns-then-last-most-clause-read c =
    let ahead = c.look_on.new.self in
    let last = c.planes_at_end-last in
    let read : MovesOverSome c.args.most (state c.args.n ahead) (state last.result.above c.pass.new.self) last.result =
    at_end c.args.most ahead.bits ahead.count last.result ahead.window c.if-cursor.true (omega (arith, c.requires.in_plane)) last.ensures c.if-last-most.true c.pass.ensures.taken in
    rw (c.look_on.ensures.left, c.look_on.ensures.reader) at read

pub returns-then-some-cursor-clause-read : goal.returns-then-some-cursor-clause-read
returns-then-some-cursor-clause-read c =
    let ahead = c.look_on.new.self in
    let some = c.planes_in_sight-some in
    let read : MovesOverSome c.args.most (state c.args.n ahead) (state some.result.above c.pass-then-some-cursor.new.self) some.result =
    in_sight c.args.most ahead.bits ahead.count some.result ahead.window (omega (arith, c.requires.in_plane)) some.ensures c.if-some-cursor.true c.if-some-most.true c.pass-then-some-cursor.ensures.taken in
    rw (c.look_on.ensures.left, c.look_on.ensures.reader) at read

pub returns-in_err-one-clause-short : goal.returns-in_err-one-clause-short
returns-in_err-one-clause-short c =
    if_none _ (lack_of_one 4 c.args.most (state c.args.n c.args.cursor.now) c.requires.some (rw (c.look_on.ensures.left, c.look_on.ensures.reader) at c.in_err-one.ensures.short))

pub returns-clause-read : goal.returns-clause-read
returns-clause-read c =
    let one = c.in_ok-one.ensures.read in
    let read : MovesOverSome c.args.most (state c.args.n c.look_on.new.self) (state c.in_ok-one.one.above c.read_one.new.cursor) c.in_ok-one.one = record { some = one.some; few = one.few; read = record { fits = omega (arith, one.read.fits, c.requires.some); below = one.read.below; comes = one.read.comes } } in
    rw (c.look_on.ensures.left, c.look_on.ensures.reader) at read
