use Rattle.std.proofs.Common.{◌+◌, ◌-◌, arith}
use Rattle.zf_planes.proofs.ShortPlanes.{reaches_some, run_of_tail}
use Rattle.zf_planes.proofs.doubling.short_run.Goals.{then-tail-most, else-tail-most}
use Rattle.zf_planes.proofs.doubling.short_run.Goals as goal

pub returns-clause-bits : goal.returns-clause-bits
returns-clause-bits c =
    let tail = c.tail_code-tail.result in
    let entry = c.tail_code-tail.ensures in
    let most = c.args.most in
    let digits = c.args.digits in
    let two = entry.two (reaches_some digits tail.reach c.requires.some entry.within) in
    elim c.if-tail-most.branch [
      | then-tail-most w ↦ run_of_tail most digits (tail.len - 2) _ (digits + tail.more) c.requires.some c.requires.within (omega (arith, two, w.implied-is)) (omega (arith, entry.few)) (rw w.if-tail-most.true at entry.last)
      | else-tail-most w ↦ run_of_tail most digits tail.len _ (digits + tail.more) c.requires.some c.requires.within (omega (arith, two, w.implied-is)) (omega (arith, entry.few))
          (entry.whole most (omega (arith, entry.least most c.requires.within, w.if-tail-most.false)))
    ]
