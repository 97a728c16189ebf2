-- The bytes of the values so far.
use Rattle.std.{proofs.Common.{◌≡◌, ◌*◌, map, take}, specs.Int.{w32}}
use Rattle.zf_spec.specs.Stream.{raw}
use Rattle.zf_narrow.{specs.Values.{promoted}, specs.RawNarrow.{values_in}}
use Rattle.zf_narrow.proofs.raw.put_promoted.Given as goal

abbrev pub invariant-loop-i : goal.invariant-loop-i
invariant-loop-i l = take (l.i * 4) l.raw ≡ raw w32 (map (promoted l.n) (values_in l.n l.i l.narrow))
