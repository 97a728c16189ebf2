-- The codes so far were read where they begin, and the place is behind them.
use Rattle.std.proofs.Common.{◌≡◌, ◌+◌, ◌*◌, ◌^◌, ◌≤◌, length}
use Rattle.zf_spec.specs.Stream.{to_bits}
use Rattle.zf_parse.specs.Parsing.{longest_code}
use Rattle.zf_index.{specs.Spans.{place}, specs.Files.{AreRead}}
use Rattle.zf_index.proofs.walk.walk.Given as goal

pub record SoFar (g : goal.Over) (l : goal.Live-loop-b g) : Type 0 where
  pub count : length l.lens.items ≡ l.b
  pub at : l.at ≡ place (record { start = l.start; lens = l.lens.items }) (length l.lens.items)
  pub within : l.at ≤ 8 * length l.file
  pub read : AreRead l.h (record { start = l.start; lens = l.lens.items }) (to_bits l.file)
  pub whole : length l.block.items ≡ 4 ^ length l.h.shape
  pub room : longest_code l.h + 128 ≤ 64 * l.excerpt.room

abbrev pub invariant-loop-b : goal.invariant-loop-b
invariant-loop-b g l = SoFar g l
