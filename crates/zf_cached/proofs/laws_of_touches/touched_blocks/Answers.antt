use Rattle.zf_cached.{specs.Touch.{touch_at}, proofs.Placed.{touched_here}}
use Rattle.zf_cached.proofs.Caching.{touch-here, touch-left, touch-hit, touch_for_writing-dirty, is_block-some}
use Rattle.zf_cached.proofs.laws_of_touches.touched_blocks.Goals as goal

pub returns : goal.returns
returns g c = let line = g.P.Placing.line in record {
  here = touch-here line;
  same = touch-left line;
  hit = touch-hit line;
  again = λ owned format s b own h.
      touch-hit line format (touch_at line format s b) b
      (is_block-some _ b (touched_here line g.P.Placing.may_hold g.P.Placing.placing owned format s b own h));
  dirty = touch_for_writing-dirty line;
}
