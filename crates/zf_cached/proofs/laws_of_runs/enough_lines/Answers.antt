use Rattle.zf_cached.proofs.Uncached.{opened-enough, touch-keeps, lines-beside, script-beside}
use Rattle.zf_cached.proofs.laws_of_runs.enough_lines.Goals as goal

pub returns : goal.returns
returns g c = record {
  opened = opened-enough;
  touch = λ format s b own enough below. touch-keeps g.P.Placing.line own format s enough b below;
  lines = λ setting starved k lines s own cached sound enough on. lines-beside g.P.Placing.line own g.P.Placing.may_hold g.P.Placing.placing setting cached starved k lines s sound enough on;
  script = λ setting starved shape codes lines script own cached is some le on. script-beside g.P.Placing.line own g.P.Placing.may_hold g.P.Placing.placing setting cached starved shape codes lines script is some le on;
}
