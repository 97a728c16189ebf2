use Rattle.std.{proofs.Common.{rules}, proofs.lemmas.List.{length-map}}
use Rattle.zf_coef.proofs.Putting.{both_kept}
use Rattle.zf_coef.proofs.Folded.{more_folded, no_more_folded}
use Rattle.zf_coef.proofs.planes.put_folded.Goals.{then-first-planes, else-first-planes}
use Rattle.zf_coef.proofs.planes.put_folded.Goals as goal

pub loop-eight-preserved : goal.loop-eight-preserved
loop-eight-preserved g c = search (rules, then-first-planes, length-map, more_folded, both_kept, else-first-planes, no_more_folded)
