use Rattle.std.proofs.Common.{◌≡◌, ◌*◌, ◌^◌, map}
use Rattle.zf_spec.specs.Grid.{upto}
use Rattle.zf_cached.specs.Steps.{total}
use Rattle.zf_window.specs.Bounds.{IsUpTo}
use Rattle.zf_commands.specs.Sums.{value_within}
use Rattle.zf_commands.proofs.blocks.sum_within.Given as goal

abbrev pub invariant-loop-place : goal.invariant-loop-place
invariant-loop-place g l = (l.sum ≡ total (map (value_within l.size (map g.T.Lane.value l.block)) (upto l.place))) × IsUpTo (2 ^ 63 * l.place) l.sum
