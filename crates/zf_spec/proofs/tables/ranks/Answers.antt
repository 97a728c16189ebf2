use Rattle.std.proofs.Common.{refl}
use Rattle.zf_spec.proofs.tables.ranks.Goals as goal

pub returns : goal.returns
returns c = record { one = refl; two = refl; three = refl }
