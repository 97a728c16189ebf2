use Rattle.std.proofs.Common.{rules}
use Rattle.zf_coef.proofs.Halves.{no_word}
use Rattle.zf_coef.proofs.planes.padded.Goals as goal

pub loop-r-init : goal.loop-r-init
loop-r-init c = search (rules, no_word)
