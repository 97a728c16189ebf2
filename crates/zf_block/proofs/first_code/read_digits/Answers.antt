use Rattle.std.proofs.Common.{rules, ◌≡◌, ◌+◌, ◌-◌, arith}
use Rattle.zf_block.{proofs.FirstAlone.{joined, ReadsDigits-append}}
use Rattle.zf_block.proofs.first_code.read_digits.Goals as goal

pub overflow_add-result : goal.overflow_add-result
overflow_add-result c = search (rules, joined)

pub returns : goal.returns
returns c =
    let first = c.min-first.result in
    let second = c.args.count - first in
    let above = c.in_ok-above.ensures in
    let below = c.in_ok-below.ensures in
    let count : first + second ≡ c.args.count = omega arith in
    let word = joined first second c.in_ok-above.above c.in_ok-below.below above.small below.small (omega arith) in
    rw word.0 (rw count at (ReadsDigits-append first second c.in_ok-above.above c.in_ok-below.below above below))
