use Rattle.zf_twoway.proofs.Touches.{touch-words, twoway-cached}
use Rattle.zf_twoway.proofs.laws_of_touches.touches_are_placed.Goals as goal

pub returns : goal.returns
returns g c = record {
  touch = λ format s b. touch-words s format b;
  setting = twoway-cached;
}
