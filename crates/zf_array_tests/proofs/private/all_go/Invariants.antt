use Rattle.std.proofs.Common.{◌≡◌, ℕ}
use Rattle.zf_base.specs.contracts.lane.I32Lane.TheImpl.{ghosts as lane}
use Rattle.zf_array_tests.specs.contracts.counted.CountedReadingI32.TheImpl.{ghosts as counted}
use Rattle.zf_private.{specs.Several.{IsReady}, specs.Standing.{Own}}
use Rattle.zf_array_tests.proofs.private.all_go.Given as goal

abbrev pub invariant-loop-of : goal.invariant-loop-of
invariant-loop-of g l =
    (l.zero.shape ≡ l.shape) × (l.one.shape ≡ l.shape)
    × IsReady lane.value 1 l.zero (counted.format l.back) (counted.codes l.back)
    × IsReady lane.value 1 l.one (counted.format l.back) (counted.codes l.back)
    × ((b : ℕ) → Own l.zero b → Own l.one b → ⊥)
