-- The first values are there, and the blocks that are held are the stream's, where the places are right.
use Rattle.std.proofs.Common.{◌≡◌, Ok, map, length}
use Rattle.zf_parse.specs.Parsing.{Said, parse}
use Rattle.zf_part.specs.{Readings.{IsRight}, Windows.{AreThere, HasLines}}
use Rattle.zf_part.proofs.window.cut.Given as goal

pub record Cut (g : goal.Over) (l : goal.Live-loop-i g) : Type 0 where
  pub lines : HasLines g.T.Lane.value l.reading l.held l.lines l.words
  pub walk : l.walk ≡ record { shape = l.reading.header.shape; window = l.w; next = l.i }
  pub count : length l.out ≡ length l.fn.out
  pub done : IsRight l.reading → (said : Said) → parse l.reading.bytes ≡ Ok said → AreThere l.reading.header l.w said (map g.T.Lane.value l.out) l.i

abbrev pub invariant-loop-i : goal.invariant-loop-i
invariant-loop-i g l = Cut g l
