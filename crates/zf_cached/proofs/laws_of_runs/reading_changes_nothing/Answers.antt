use Rattle.zf_cached.proofs.Reading.{run-reads, look-reads}
use Rattle.zf_cached.proofs.laws_of_runs.reading_changes_nothing.Goals as goal

pub returns : goal.returns
returns g c = record {
  run = λ setting starved shape s script cached clean reads. run-reads g.P.Placing.line setting starved shape s script cached clean reads;
  look = λ setting starved shape s script cached clean reads. look-reads g.P.Placing.line setting starved shape s script cached clean reads;
}
