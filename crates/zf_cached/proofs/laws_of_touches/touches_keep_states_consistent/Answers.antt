use Rattle.zf_cached.proofs.Placed.{touch-consistent, touch_for_writing-consistent, with_values-consistent, write_back-consistent}
use Rattle.zf_cached.proofs.laws_of_touches.touches_keep_states_consistent.Goals as goal

pub returns : goal.returns
returns g c = record {
  touch = touch-consistent g.P.Placing.line g.P.Placing.may_hold g.P.Placing.placing;
  for_writing = touch_for_writing-consistent g.P.Placing.line g.P.Placing.may_hold g.P.Placing.placing;
  written = with_values-consistent g.P.Placing.line g.P.Placing.may_hold g.P.Placing.placing;
  write_back = write_back-consistent g.P.Placing.line g.P.Placing.may_hold g.P.Placing.placing;
}
