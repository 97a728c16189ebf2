use Rattle.std.{specs.Prelude.{if◌then◌else◌}, proofs.Common.{◌≡◌, Bool, sym, ap}}
use Rattle.zf_cached.{specs.State.{own_line, is_here}, specs.Placing.{direct}, specs.Touch.{hit, miss, touch}}
use Rattle.zf_cached.proofs.Caching.{touch_by, touch-hit, touch-is_here}
use Rattle.zf_cached.proofs.laws_of_touches.direct_touches.Goals as goal

pub returns : goal.returns
returns g c = record {
  touch = λ format s b.
      let By = λ (x : Bool). if x then hit s else miss format s (own_line s b) b in
      touch_by direct format s b (λ t. t ≡ By (is_here s b)) (λ yes. sym (ap By yes)) (λ no. sym (ap By no));
  here = touch-is_here;
  again = λ format s b. touch-hit direct format (touch format s b) b (touch-is_here format s b);
  own = λ owned format s l b h is. sym (h.in_its_line l b is);
  dirty = λ owned format s b h is. h.dirty_is_here b is;
}
