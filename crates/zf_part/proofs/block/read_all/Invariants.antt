-- The first blocks of the list are read.
use Rattle.std.proofs.Common.{◌≡◌, ◌<◌, map, length, get_or}
use Rattle.zf_part.specs.{Blocks.{IsBlockOf}, Readings.{IsRight, HasRoom}, Windows.{line_of}}
use Rattle.zf_part.proofs.block.read_all.Given as goal

pub record Read (g : goal.Over) (l : goal.Live-loop-k g) : Type 0 where
  pub room : HasRoom l.reading.header l.words
  pub count : length l.values ≡ length l.fn.values
  pub blocks : IsRight l.reading → (k : _) → k < l.k → IsBlockOf l.reading.bytes l.reading.header (get_or l.list k 0) (map g.T.Lane.value (line_of l.reading.header k l.values))

abbrev pub invariant-loop-k : goal.invariant-loop-k
invariant-loop-k g l = Read g l
