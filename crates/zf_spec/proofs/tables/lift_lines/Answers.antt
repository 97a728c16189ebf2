use Rattle.std.{proofs.Common.{refl}, specs.Int.{int_wrap}}
use Rattle.zf_spec.specs.Lift.{along}
use Rattle.zf_spec.proofs.tables.lift_lines.Goals as goal

pub returns : goal.returns
unfolding int_wrap along
returns c = record { low = refl; rising = refl; back = refl; flat = refl; flat_back = refl }
