-- The places so far are those of the first codes so far, and where a code is left, its chunk comes next.
use Rattle.std.proofs.Common.{◌≡◌, ◌-◌, ◌*◌, ◌<◌, ◌≤◌, ℕ, length, get_or}
use Rattle.zf_index.specs.Spans.{place}
use Rattle.zf_index.proofs.index.places_of.Given as goal

pub record SoFar (l : goal.Live-loop-first) : Type 0 where
  pub at : l.at ≡ place (record { start = l.start; lens = l.lens }) l.first
  pub each : (c : ℕ) → c < length l.places.items → get_or l.places.items c 0 ≡ place (record { start = l.start; lens = l.lens }) (l.step * c)
  pub chunk : l.first < length l.lens → l.first ≡ l.step * length l.places.items
  pub enough : l.first ≤ l.step * length l.places.items
  pub within : l.first ≤ length l.lens

abbrev pub invariant-loop-first : goal.invariant-loop-first
invariant-loop-first l = SoFar l

abbrev pub decreases-loop-first : goal.decreases-loop-first
decreases-loop-first l = length l.lens - l.first

abbrev pub invariant-loop-code : goal.invariant-loop-code
invariant-loop-code l = l.at ≡ place (record { start = l.start; lens = l.lens }) l.code
