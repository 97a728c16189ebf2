use Rattle.std.proofs.Common.{ap, ◌∙◌}
use Rattle.zf_spec.specs.Grid.{blocks}
use Rattle.zf_cached.specs.Arrays.{array_format}
use Rattle.zf_array.proofs.codes.CodesReading.blocks.Goals as goal

pub returns : goal.returns
unfolding array_format
returns g c = c.blocks-2.ensures.value ∙ ap blocks c.shape.ensures.value
