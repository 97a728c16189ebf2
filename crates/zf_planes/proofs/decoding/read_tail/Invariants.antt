-- The digits up to rank n are read, the others are zero, and what reading makes of the rest is what it makes of the tail behind them.
use Rattle.std.proofs.Common.{◌≡◌, ◌-◌, ◌≤◌, max, ◌++◌}
use Rattle.zf_spec.{specs.Planes.{reach}, specs.HeldPlanes.{digits_held, IsClearFrom}}
use Rattle.zf_bits.specs.Reader.{rest}
use Rattle.zf_planes.{specs.Decoding.{tail_ahead, tail_bits}, proofs.Passing.{Passes}}
use Rattle.zf_planes.proofs.decoding.read_tail.Given as goal

abbrev pub invariant-loop-n : goal.invariant-loop-n
invariant-loop-n g l =
    let words = g.P.Plane.words l.plane in
    record {
      passes : Passes l.fn.cursor.reader l.cursor.reader l.fn.cursor.left l.cursor.left (tail_bits l.cursor.left (l.size - l.n) (rest l.cursor.reader)) (tail_bits l.fn.cursor.left (l.size - l.fn.n) (rest l.fn.cursor.reader));
      digits : digits_held l.fn.n (g.P.Plane.words l.fn.prefix) ++ tail_ahead l.fn.cursor.left (l.size - l.fn.n) (rest l.fn.cursor.reader)
          ≡ digits_held l.n words ++ tail_ahead l.cursor.left (l.size - l.n) (rest l.cursor.reader);
      clear : IsClearFrom l.n words;
      within : l.n ≤ l.size;
      above : l.n ≡ max l.fn.n (reach (digits_held l.n words));
    }

abbrev pub decreases-loop-n : goal.decreases-loop-n
decreases-loop-n g l = l.size - l.n
