-- Of the bits in sight some were passed, and the planes before the i-th are those that they stand for; what comes behind them is to come.
use Rattle.std.proofs.Common.{◌≡◌, ◌-◌, ◌≤◌, length, map, take}
use Rattle.zf_spec.specs.HeldPlanes.{planes_held}
use Rattle.zf_bits.specs.Reader.{rest}
use Rattle.zf_planes.{specs.Decoding.{IsWindow}, specs.States.{Comes}, specs.Moves.{state, AreZeroFrom}, proofs.Coming.{past}}
use Rattle.zf_planes.proofs.word_reading.read_same.Given as goal

abbrev pub invariant-loop-i : goal.invariant-loop-i
invariant-loop-i g l =
    let now = past (l.fn.cursor.count - l.count) l.n (state l.n l.fn.cursor) in
    let planes = map g.P.Plane.words l.planes in
    record {
      window : IsWindow now.left l.bits l.count (rest now.reader);
      fewer : l.count ≤ l.fn.cursor.count;
      comes : Comes l.size (l.i - l.from) (state l.n l.fn.cursor) (take l.from (planes_held l.size (map g.P.Plane.words l.fn.planes))) now (take l.i (planes_held l.size planes));
      zeros : AreZeroFrom l.size l.i planes;
      long : length l.planes ≡ length l.fn.planes;
      begun : l.from ≤ l.i;
      within : l.i ≤ l.to;
      first : l.from ≡ l.i → (l.bits ≡ l.fn.cursor.bits) × (l.count ≡ l.fn.cursor.count);
    }

abbrev pub decreases-loop-i : goal.decreases-loop-i
decreases-loop-i g l = l.to - l.i
