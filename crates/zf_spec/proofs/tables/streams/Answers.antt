use Rattle.std.{proofs.Common.{refl}, specs.Int.{int_wrap}}
use Rattle.zf_spec.{specs.Padding.{pad}, specs.Lorenzo.{lorenzo}, specs.Codes.{rev, rev_of_planes}}
use Rattle.zf_spec.specs.Stream.{header, file, stream, stream_of_bytes}
use Rattle.zf_spec.proofs.tables.streams.Goals as goal

pub returns : goal.returns
unfolding int_wrap pad lorenzo rev rev_of_planes header file stream stream_of_bytes
returns c = record { zero = refl; one = refl; minus_one = refl; least = refl; two_values = refl; last_of_four = refl }
