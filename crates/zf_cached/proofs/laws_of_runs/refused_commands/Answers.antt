use Rattle.zf_cached.proofs.Runs.{step-refused, refusal-memory, refusal-word}
use Rattle.zf_cached.proofs.laws_of_runs.refused_commands.Goals as goal

pub returns : goal.returns
returns g c = record {
  unchanged = step-refused;
  memory = refusal-memory;
  word = refusal-word;
}
