use Rattle.zf_cached.proofs.Reading.{reading-saves}
use Rattle.zf_cached.proofs.laws_of_runs.reading_saves_the_file.Goals as goal

pub returns : goal.returns
returns c = reading-saves
