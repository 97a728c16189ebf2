use Rattle.std.proofs.Common.{ap, ◌∙◌}
use Rattle.zf_cached.specs.Arrays.{array_format}
use Rattle.zf_store.specs.Stored.{Stored, format_of}
use Rattle.zf_store.proofs.store.StoreReading.blocks.Goals as goal

pub returns : goal.returns
unfolding array_format
returns g c = c.blocks-2.ensures.value ∙ ap (λ (s : Stored). (format_of s).blocks) c.self.view_is
