use Rattle.zf_twoway.proofs.Touches.{touch-rounds, touch-spares}
use Rattle.zf_twoway.proofs.laws_of_touches.other_blocks.Goals as goal

pub returns : goal.returns
returns g c = record {
  evicted = λ format s a b. touch-rounds s format a b;
  spared = λ format s a b. touch-spares s format a b;
}
