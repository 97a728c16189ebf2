use Rattle.std.proofs.Common.{lit<}
use Rattle.zf_array.proofs.codes.CodesReading.load.Goals as goal

pub load_code-requires : goal.load_code-requires
load_code-requires g c = (lit< tt, (c.requires.block, c.requires.whole))
