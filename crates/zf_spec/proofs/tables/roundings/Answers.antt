use Rattle.std.{proofs.Common.{refl}, specs.Int.{int_wrap}}
use Rattle.zf_spec.{specs.Padding.{pad}, specs.Lift.{along}, specs.Planes.{digits_in_planes}}
use Rattle.zf_spec.specs.Codes.{existing_values, round, read_rate}
use Rattle.zf_spec.proofs.tables.roundings.Goals as goal

pub returns : goal.returns
unfolding int_wrap pad along digits_in_planes existing_values round read_rate
returns c = record { low = refl; rising = refl; one_bit = refl; cut_run = refl; read_back = refl }
