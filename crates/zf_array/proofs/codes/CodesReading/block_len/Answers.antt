use Rattle.std.proofs.Common.{ap, ◌∙◌, ◌^◌, List, ℕ, length}
use Rattle.zf_cached.specs.Arrays.{array_format}
use Rattle.zf_array.proofs.codes.CodesReading.block_len.Goals as goal

pub returns : goal.returns
unfolding array_format
returns g c = c.block_len.ensures.value ∙ ap (λ d. 4 ^ d) c.dims.ensures.value ∙ ap (λ (ns : List ℕ). 4 ^ length ns) c.shape.ensures.value
