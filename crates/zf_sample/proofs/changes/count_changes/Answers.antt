use Rattle.std.proofs.Common.{◌≡◌, ◌+◌, ◌-◌, cond, arith, rules}
use Rattle.zf_sample.{proofs.Counting.{next_change}, proofs.changes.count_changes.Goals.{then-ne, else-ne}}
use Rattle.zf_sample.proofs.changes.count_changes.Goals as goal

pub loop-i-preserved : goal.loop-i-preserved
loop-i-preserved c =
    let len = c.args.len in
    let k = c.args.count - (c.loop-i._i + 1) in
    let a = c.split_at in
    let b = c.split_at-in-loop-i in
    let now : c.if-ne.changed ≡ c.loop-i.changed + cond c.ne.result 1 0 = search rules in
    let next = next_change len k (c.args.count - c.loop-i._i) c.loop-i.changed c.if-ne.changed c.min.result c.min-in-loop-i.result c.loop-i.before.now c.loop-i.after.now a.result.0.now b.result.0.now a.result.1.now b.result.1.now c.ne.result
    (omega arith) c.min.ensures c.min-in-loop-i.ensures a.ensures.front b.ensures.front a.ensures.back b.ensures.back c.ne.ensures now in search rules
