use Rattle.std.{proofs.Common.{refl}, specs.Int.{int_wrap}}
use Rattle.zf_spec.specs.Lorenzo.{lorenzo, unlorenzo}
use Rattle.zf_spec.proofs.tables.lorenzo_lines.Goals as goal

pub returns : goal.returns
unfolding int_wrap lorenzo unlorenzo
returns c = record { rising = refl; padded = refl; back = refl }
