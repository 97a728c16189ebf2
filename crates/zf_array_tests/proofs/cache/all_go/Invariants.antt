use Rattle.std.proofs.Common.{◌≡◌}
use Rattle.zf_array_tests.specs.EvenValues.{evens_format}
use Rattle.zf_array_tests.specs.contracts.counted.CountedReadingI32.TheImpl.{ghosts as counted}
use Rattle.zf_base.specs.contracts.lane.I32Lane.TheImpl.{ghosts as lane}
use Rattle.zf_cache.specs.Standing.{Fits}
use Rattle.zf_array_tests.proofs.cache.all_go.Given as goal

abbrev pub invariant-loop-act : goal.invariant-loop-act
invariant-loop-act g l = Fits lane.value l.cache (counted.format l.back) (counted.codes l.back) × (counted.format l.back ≡ evens_format 8)
