use Rattle.std.{proofs.Common.{refl}, specs.Int.{int_wrap}}
use Rattle.zf_spec.{specs.Padding.{pad}, specs.Lorenzo.{lorenzo}, specs.Codes.{rev, rev_of_planes}}
use Rattle.zf_spec.proofs.tables.block_codes.Goals as goal

pub returns : goal.returns
unfolding int_wrap pad lorenzo rev rev_of_planes
returns c = record { one = refl; least = refl; one_of_int64 = refl }
