use Rattle.std.proofs.Common.{◌≡◌, ◌+◌, ◌≤◌, length}
use Rattle.zf_dev.specs.Source.{Takes, Gives}
use Rattle.zf_dev.proofs.whole.take_pieces.Given as goal

abbrev pub invariant-loop-count : goal.invariant-loop-count
invariant-loop-count g l = record {
  taken : Takes (g.S.Source.contents l.initial.src) (g.S.Source.contents l.src) l.bytes.items;
  gave : Gives (g.S.Source.gave l.initial.src) (g.S.Source.gave l.src) l.bytes.items;
  within : l.left + length l.bytes.items ≡ l.max;
  unseen : g.S.Source.ends_seen l.src ≤ g.S.Source.ends_seen l.initial.src;
  same : g.S.Source.faults l.src ≡ g.S.Source.faults l.initial.src;
  same_source : g.S.Source.kept l.src ≡ g.S.Source.kept l.initial.src;
  sure : g.S.Source.never_fails l.initial.src → g.S.Source.never_fails l.src;
}

abbrev pub decreases-loop-count : goal.decreases-loop-count
decreases-loop-count g l = l.left
