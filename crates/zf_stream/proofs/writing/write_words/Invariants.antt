-- The bytes of the words so far were written.
use Rattle.std.proofs.Common.{◌≤◌, ◌-◌, length, take}
use Rattle.zf_dev.{specs.Sink.{Appends}, specs.Devices.{Writes}}
use Rattle.zf_stream.specs.Flows.{bytes_in}
use Rattle.zf_stream.proofs.writing.write_words.Given as goal

pub record Written (g : goal.Over) (l : goal.Live-loop-at g) : Type 0 where
  pub within : l.at ≤ length l.words
  pub written : Appends (g.O.Sink.contents l.fn.out) (g.O.Sink.contents l.out) (bytes_in (take l.at l.words))
  pub sink : Writes g.O.Sink ⊥ l.fn.out l.out

abbrev pub invariant-loop-at : goal.invariant-loop-at
invariant-loop-at g l = Written g l

abbrev pub decreases-loop-at : goal.decreases-loop-at
decreases-loop-at g l = length l.words - l.at
