use Rattle.zf_block.proofs.WholePlanes.{planes_kept_from}
use Rattle.zf_block.proofs.laws.whole_planes_are_kept.Goals as goal

pub returns : goal.returns
returns c = planes_kept_from
