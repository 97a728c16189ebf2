use Rattle.zf_cached.proofs.Caching.{touch-left_clean, touch-evicts, touch-left_away}
use Rattle.zf_cached.proofs.laws_of_touches.other_blocks.Goals as goal

pub returns : goal.returns
returns g c = let line = g.P.Placing.line in record {
  clean = touch-left_clean line;
  evicted = touch-evicts line;
  away = touch-left_away line;
}
