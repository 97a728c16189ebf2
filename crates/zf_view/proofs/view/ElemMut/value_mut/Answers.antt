use Rattle.std.proofs.Common.{rules}
use Rattle.zf_cached.specs.Touch.{soiled, touch_for_writing_at}
use Rattle.zf_view.proofs.view.ElemMut.value_mut.Goals as goal

pub returns : goal.returns
unfolding touch_for_writing_at soiled
returns g c = search rules
