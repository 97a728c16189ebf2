use Rattle.std.proofs.Common.{rules}
use Rattle.zf_words.proofs.name.Name.new.Goals as goal

pub returns-in-Ok-clause-name : goal.returns-in-Ok-clause-name
returns-in-Ok-clause-name c = search rules
