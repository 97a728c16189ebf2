use Rattle.zf_cached.{proofs.Sessions.{step-sound}, proofs.Runs.{run_lines-sound, run-sound, run-empty}}
use Rattle.zf_cached.proofs.laws_of_runs.scripts_keep_states_consistent.Goals as goal

pub returns : goal.returns
returns g c = record {
  step = step-sound g.P.Placing.line g.P.Placing.may_hold g.P.Placing.placing;
  lines = run_lines-sound g.P.Placing.line g.P.Placing.may_hold g.P.Placing.placing;
  run = run-sound g.P.Placing.line g.P.Placing.may_hold g.P.Placing.placing;
  flushed = run-empty g.P.Placing.line g.P.Placing.may_hold g.P.Placing.placing;
}
