use Rattle.std.{proofs.Common.{refl}, specs.Int.{int_wrap}}
use Rattle.zf_spec.{specs.Padding.{pad}, specs.Lorenzo.{lorenzo}, specs.Lift.{along}}
use Rattle.zf_spec.specs.Codes.{rev, rev_of_planes, rate}
use Rattle.zf_spec.specs.Stream.{header, file, stream, stream_of_bytes}
use Rattle.zf_spec.proofs.tables.more_streams.Goals as goal

pub returns : goal.returns
unfolding int_wrap pad lorenzo along rev rev_of_planes rate header file stream stream_of_bytes
returns c = record { zeros_of_int64 = refl; three_dimensions = refl; two_dimensions = refl; rate_64 = refl; rate_1 = refl }
