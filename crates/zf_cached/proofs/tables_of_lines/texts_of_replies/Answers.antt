use Rattle.std.{proofs.Common.{refl}, specs.Fmt.{digits}}
use Rattle.zf_cached.proofs.tables_of_lines.texts_of_replies.Goals as goal

pub returns : goal.returns
unfolding digits
returns c = record { zero = refl; negative = refl; great = refl; counts = refl; word = refl; split = refl; size = refl; range = refl; value = refl; memory = refl }
