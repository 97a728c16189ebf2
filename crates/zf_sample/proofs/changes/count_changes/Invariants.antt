use Rattle.std.proofs.Common.{◌≡◌, ◌+◌, ◌-◌, ◌≤◌}
use Rattle.zf_sample.specs.Summaries.{changes}
use Rattle.zf_sample.proofs.changes.count_changes.Given as goal

-- the changes so far and those to come are all
abbrev pub invariant-loop-i : goal.invariant-loop-i
invariant-loop-i l = record {
  all : l.changed + changes l.len (l.count - l._i) l.before l.after ≡ changes l.len l.count l.fn.before l.fn.after;
  few : l.changed ≤ l._i;
}
