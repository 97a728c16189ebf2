use Rattle.std.{proofs.Common.{refl}, specs.Int.{int_wrap}}
use Rattle.zf_spec.{specs.Padding.{pad}, specs.Lift.{along}, specs.Codes.{prec}}
use Rattle.zf_spec.specs.Stream.{header, file, stream, stream_of_bytes}
use Rattle.zf_spec.proofs.tables.precision_streams.Goals as goal

pub returns : goal.returns
unfolding int_wrap pad along prec header file stream stream_of_bytes
returns c = record { all_planes = refl; one_plane = refl }
