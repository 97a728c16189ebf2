use Rattle.std.proofs.Common.{rules}
use Rattle.zfpi_uses.proofs.window.sum_and_mark.Goals as goal

pub returns-clause-done : goal.returns-clause-done
returns-clause-done c =
    let opened = c.in_ok-array.ensures.stored in
    let read = c.sum-sum.ensures in
    let head = c.mark.ensures.header in
    (c.in_ok-array.array, (c.sum-sum.new.array, (c.mark.new.array, record { opened_is = opened; sum_is = search rules; read_is = read.unwritten; read_header = read.header; changed_is = search rules; changed_header = head; saved_is = search rules })))
