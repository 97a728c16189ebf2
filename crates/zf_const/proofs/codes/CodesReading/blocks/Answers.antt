use Rattle.std.proofs.Common.{ap, ◌∙◌}
use Rattle.zf_cached.specs.Arrays.{array_format}
use Rattle.zf_const.specs.Parts.{Coded, format_of}
use Rattle.zf_const.proofs.codes.CodesReading.blocks.Goals as goal

pub returns : goal.returns
unfolding array_format
returns g c = c.blocks-2.ensures.value ∙ ap (λ (s : Coded). (format_of s).blocks) c.self.view_is
