use Rattle.std.proofs.Common.{◌≡◌, ◌%◌, ◌*◌, ◌≤◌, ◌++◌, length, sym, ap, ◌∙◌, ℕ, ◌+◌, ◌/◌, min, List, append-nil, arith}
use Rattle.zf_dev.specs.Logs.{noted}
use Rattle.zf_narrow.{specs.Values.{size_of}, specs.RawNarrow.{demoted_bytes}, specs.Promoting.{listed}}
use Rattle.zf_narrow.proofs.Demoting.{begun_values, begun_values-bounds, owes_one, owes_none, within_prefix, written_is}
use Rattle.zf_narrow.proofs.demotion.Demotion.write_values.Goals.{then-written-values, else-written-values}
use Rattle.zf_narrow.proofs.demotion.Demotion.write_values.Goals as goal

pub invariant_of-self-clause-written : goal.invariant_of-self-clause-written
invariant_of-self-clause-written g c =
    let n = c.args.self.now.narrow in
    let raw = c.args.raw.now in
    let len = c.size-len.result in
    let len_is : len ≡ size_of n = c.size-len.ensures.value in
    let count = c.min-count.result in
    let count_is : count ≡ min (length raw / 4) 2048 = c.min-count.ensures in
    let room : count * 4 ≤ length raw = omega (arith, count_is) in
    let k = c.in_ok-written.written in
    let values = c.div_ceil-values.result in
    let values_is : values ≡ begun_values n k = c.div_ceil-values.ensures ∙ ap (λ m. k / m + min 1 (k % m)) len_is in
    let before : noted c.args.self.now.given ≡ demoted_bytes n (noted c.args.self.now.taken) = sym (append-nil (noted c.args.self.now.given)) ∙ ap (λ o. (noted c.args.self.now.given) ++ listed o) (sym c.requires.settled) ∙ c.args.self.now.written in
    let part = c.put_demoted.new.narrow in
    let bound : k ≤ count * size_of n = within_prefix n count k len _ len_is c.in_ok-written.ensures.bound in
    let few : values ≤ count = omega (arith, (begun_values-bounds n k count bound).0, values_is) in
    ap (λ (bs : List ℕ). bs ++ listed c.if-written-values.self) c.note.ensures
    ∙ written_is n count values k raw part _ (noted c.args.self.now.given) (noted c.args.self.now.taken) (listed c.if-written-values.self) few room c.put_demoted.ensures before c.args.self.now.whole
    (elim c.if-written-values.branch [
      | then-written-values w ↦ owes_one n count values k len raw part _ _ c.if-written-values.self room c.put_demoted.ensures len_is bound values_is w.self-is w.if-written-values.true
      | else-written-values w ↦ owes_none n count values k len _ c.if-written-values.self len_is bound values_is w.self-is w.if-written-values.false
    ])
    ∙ ap (demoted_bytes n) (sym c.note-2.ensures)
