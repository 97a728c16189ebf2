use Rattle.zf_twoway.{specs.Touch.{touch}, proofs.Touches.{touch-is_here, touch-hits}}
use Rattle.zf_twoway.proofs.laws_of_touches.touched_blocks.Goals as goal

pub returns : goal.returns
returns g c = record {
  here = λ format s b. touch-is_here s format b;
  hit = λ format s b. touch-hits s format b;
  again = λ format s b. touch-hits (touch format s b) format b (touch-is_here s format b);
}
