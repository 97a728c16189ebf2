use Rattle.std.{proofs.Common.{refl}, specs.Int.{int_wrap}}
use Rattle.zf_spec.{specs.Padding.{pad}, specs.Lift.{along}, specs.Planes.{digits_in_planes}}
use Rattle.zf_spec.specs.Codes.{existing_values, round_prec, read_prec}
use Rattle.zf_spec.proofs.tables.precision_roundings.Goals as goal

pub returns : goal.returns
unfolding int_wrap pad along digits_in_planes existing_values round_prec read_prec
returns c = record { all_planes = refl; more = refl; one_plane = refl; read_back = refl }
