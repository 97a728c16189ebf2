use Rattle.std.proofs.Common.{refl}
use Rattle.zf_spec.proofs.tables.negabinary.Goals as goal

pub returns : goal.returns
returns c = record { one = refl; minus_one = refl; two = refl; three = refl; least = refl; half_least = refl }
