use Rattle.zf_block.proofs.WholePlanes.{whole_from-le, whole_from-fits, whole_from-least, whole_from-only}
use Rattle.zf_block.proofs.laws.least_whole_plane.Goals as goal

pub returns-clause-within : goal.returns-clause-within
returns-clause-within c = whole_from-le

pub returns-clause-fits : goal.returns-clause-fits
returns-clause-fits c = whole_from-fits

pub returns-clause-least : goal.returns-clause-least
returns-clause-least c = whole_from-least

pub returns-clause-only : goal.returns-clause-only
returns-clause-only c = whole_from-only
