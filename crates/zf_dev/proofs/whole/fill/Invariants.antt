use Rattle.std.proofs.Common.{length, ◌-◌, ◌≡◌, ◌≤◌, take, drop}
use Rattle.zf_dev.specs.Source.{Takes, Gives}
use Rattle.zf_dev.proofs.whole.fill.Given as goal

abbrev pub invariant-loop-filled : goal.invariant-loop-filled
invariant-loop-filled g l = record {
  in_range : l.filled ≤ length l.buf;
  taken : Takes (g.S.Source.contents l.initial.src) (g.S.Source.contents l.src) (take l.filled l.buf);
  gave : Gives (g.S.Source.gave l.initial.src) (g.S.Source.gave l.src) (take l.filled l.buf);
  unseen : g.S.Source.ends_seen l.src ≤ g.S.Source.ends_seen l.initial.src;
  still_exact : g.S.Source.is_exact l.initial.src → g.S.Source.is_exact l.src;
  rest : drop l.filled l.buf ≡ drop l.filled l.initial.buf;
  same : g.S.Source.faults l.src ≡ g.S.Source.faults l.initial.src;
  same_source : g.S.Source.kept l.src ≡ g.S.Source.kept l.initial.src;
  sure : g.S.Source.never_fails l.initial.src → g.S.Source.never_fails l.src;
}

abbrev pub decreases-loop-filled : goal.decreases-loop-filled
decreases-loop-filled g l = length l.initial.buf - l.filled
