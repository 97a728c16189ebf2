-- The first digits are read, and the others are zero.
use Rattle.std.proofs.Common.{◌≡◌, ◌-◌, ◌%◌, ◌≤◌, ◌⊎◌, take}
use Rattle.zf_spec.specs.HeldPlanes.{digits_held, IsClearFrom}
use Rattle.zf_bits.specs.Reader.{rest}
use Rattle.zf_planes.proofs.Passing.{Passes}
use Rattle.zf_planes.proofs.decoding.read_prefix.Given as goal

abbrev pub invariant-loop-at : goal.invariant-loop-at
invariant-loop-at g l =
    let words = g.P.Plane.words l.plane in
    record {
      passes : Passes l.fn.cursor.reader l.cursor.reader l.fn.cursor.left l.cursor.left (l.count - l.at) l.count;
      place : (l.at % 64 ≡ 0) ⊎ (l.at ≡ l.count);
      within : l.at ≤ l.count;
      digits : digits_held l.at words ≡ take l.at (rest l.fn.cursor.reader);
      clear : IsClearFrom l.at words;
    }

abbrev pub decreases-loop-at : goal.decreases-loop-at
decreases-loop-at g l = l.count - l.at
