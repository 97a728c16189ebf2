use Rattle.std.proofs.Common.{ap, ◌∙◌, ◌^◌}
use Rattle.zf_cached.specs.Arrays.{array_format}
use Rattle.zf_const.specs.Parts.{Coded, format_of}
use Rattle.zf_const.proofs.codes.CodesReading.block_len.Goals as goal

pub returns : goal.returns
unfolding array_format
returns g c = c.block_len.ensures.value ∙ ap (λ d. 4 ^ d) c.dims.ensures.value ∙ ap (λ (s : Coded). (format_of s).block_len) c.self.view_is
