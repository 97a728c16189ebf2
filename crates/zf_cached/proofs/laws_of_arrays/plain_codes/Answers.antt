use Rattle.zf_cached.proofs.Arrays.{rounded-plain}
use Rattle.zf_cached.proofs.laws_of_arrays.plain_codes.Goals as goal

pub returns : goal.returns
returns c = rounded-plain
