-- So many codes of zeros were read, and their blocks are stored.
use Rattle.std.proofs.Common.{◌≡◌, ◌+◌, ◌-◌, ◌≤◌, length, map, ◌*◌, ◌^◌}
use Rattle.zf_spec.specs.Grid.{blocks}
use Rattle.zf_bits.specs.Reader.{rest}
use Rattle.zf_stream.specs.Restoring.{ReadsRun}
use Rattle.zf_stream.proofs.decoding.read_zeros.Given as goal

pub record Read (g : goal.Over) (l : goal.Live-loop-n g) : Type 0 where
  pub within : l.b + l.n ≤ blocks l.part.shape
  pub read : ReadsRun l.part l.b l.n l.fn.window.reader l.reader (map g.T.Lane.value l.fn.stored.items) (map g.T.Lane.value l.stored.items)
  pub place : l.reader.at + length (rest l.reader) ≡ l.fn.window.reader.at + length (rest l.fn.window.reader)
  pub all : l.reader.all ≡ l.fn.window.reader.all
  pub long : length l.stored.items ≡ length l.fn.stored.items + 4 ^ length l.part.shape * l.n
  pub values : l.fn.stored.room ≤ l.stored.room

abbrev pub invariant-loop-n : goal.invariant-loop-n
invariant-loop-n g l = Read g l

abbrev pub decreases-loop-n : goal.decreases-loop-n
decreases-loop-n g l = blocks l.part.shape - (l.b + l.n)
