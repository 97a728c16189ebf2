use Rattle.std.proofs.Common.{◌≡◌, ◌+◌, ◌-◌, ◌<◌, ◌^◌, ◌++◌, arith, rules, length, length-append, ap, sym, ◌∙◌}
use Rattle.std.proofs.lemmas.List.{take_all}
use Rattle.zf_dev.{specs.Logs.{noted}, proofs.Noting.{noted-more}}
use Rattle.zf_lent.proofs.Over.{over_written, length-over}
use Rattle.zf_lent.proofs.slice_sink.SliceSinkSink.write.Goals as goal

pub invariant_of-self-clause-count : goal.invariant_of-self-clause-count
invariant_of-self-clause-count c =
    let self = c.args.self.now in
    let more : noted c.note.new.self ≡ noted self.written ++ c.args.bytes.now = noted-more _ _ _ _ c.note.ensures in
    rw more (omega (arith, self.count, length-append (noted self.written) c.args.bytes.now, c.saturating_add-self.ensures))

pub invariant_of-self-clause-lies : goal.invariant_of-self-clause-lies
invariant_of-self-clause-lies c =
    let self = c.args.self.now in
    let old = noted self.before in
    let log = noted self.written in
    let all : length self.room.now ≡ length old = ap length self.lies ∙ length-over log old in
    let few : length self.room.now < 2 ^ 63 = search rules in
    let more : noted c.note.new.self ≡ log ++ c.args.bytes.now = noted-more _ _ _ _ c.note.ensures in
    rw more
    (over_written log c.args.bytes.now old self.room.now c.copy_from_slice.new.self c.min-at.result c.min-count.result (c.min-at.result + c.min-count.result - c.min-at.result) self.lies (search rules) (omega (arith, all, self.count, c.min-at.ensures, few))
    (omega (arith, all, c.min-count.ensures)) (omega arith))

pub returns-clause-appended : goal.returns-clause-appended
returns-clause-appended c =
    let bytes = c.args.bytes.now in
    noted-more _ _ _ _ c.note.ensures ∙ ap (λ part. noted c.args.self.now.written ++ part) (sym (take_all (length bytes) bytes (omega arith)))
