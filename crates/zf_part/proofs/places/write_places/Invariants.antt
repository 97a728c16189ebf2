-- The first places are written.
use Rattle.std.proofs.Common.{◌≡◌, ◌<◌, length, get_or}
use Rattle.zf_index.specs.Spans.{place}
use Rattle.zf_part.proofs.places.write_places.Given as goal

pub record Placed (l : goal.Live-loop-b) : Type 0 where
  pub count : length l.places ≡ length l.fn.places
  pub each : (b : _) → b < l.b → get_or l.places b 0 ≡ place l.index b

abbrev pub invariant-loop-b : goal.invariant-loop-b
invariant-loop-b l = Placed l
