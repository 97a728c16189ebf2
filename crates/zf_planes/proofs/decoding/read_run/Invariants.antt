-- So many zeros are read, and what reading makes of the rest is what it makes of the run behind them.
use Rattle.std.proofs.Common.{◌≡◌, ◌-◌, ◌<◌, ◌++◌, false, replicate}
use Rattle.zf_bits.specs.Reader.{rest}
use Rattle.zf_planes.{specs.Decoding.{run_ahead, run_bits}, proofs.Passing.{Passes}}
use Rattle.zf_planes.proofs.decoding.read_run.Given as goal

abbrev pub invariant-loop-zeros : goal.invariant-loop-zeros
invariant-loop-zeros l = record {
  passes : Passes l.fn.reader l.reader l.fn.left l.left (run_bits l.left (l.most - l.zeros) (rest l.reader)) (run_bits l.fn.left l.most (rest l.fn.reader));
  digits : run_ahead l.fn.left l.most (rest l.fn.reader) ≡ replicate l.zeros false ++ run_ahead l.left (l.most - l.zeros) (rest l.reader);
  within : l.zeros < l.most;
}

abbrev pub decreases-loop-zeros : goal.decreases-loop-zeros
decreases-loop-zeros l = l.most - l.zeros
