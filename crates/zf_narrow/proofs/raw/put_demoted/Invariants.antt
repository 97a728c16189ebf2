-- The bytes of the values so far.
use Rattle.std.{proofs.Common.{◌≡◌, ◌*◌, take}, specs.Int.{w32}}
use Rattle.zf_spec.specs.Stream.{values_from}
use Rattle.zf_narrow.{specs.Values.{size_of}, specs.RawNarrow.{raw_narrow}}
use Rattle.zf_narrow.proofs.raw.put_demoted.Given as goal

abbrev pub invariant-loop-i : goal.invariant-loop-i
invariant-loop-i l = take (l.i * size_of l.n) l.narrow ≡ raw_narrow l.n (values_from w32 l.i l.raw)
