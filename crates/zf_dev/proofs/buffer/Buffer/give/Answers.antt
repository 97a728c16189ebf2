use Rattle.std.proofs.Common.{◌≡◌, ◌-◌, ◌≤◌, ◌++◌, length, take, drop, ap, sym, ◌∙◌, arith}
use Rattle.std.proofs.lemmas.List.{drop-drop}
use Rattle.zf_dev.{proofs.Held.{held_part}, proofs.Pieces.{copied_prefix}}
use Rattle.zf_dev.proofs.buffer.Buffer.give.Goals as goal

pub returns-clause-given : goal.returns-clause-given
returns-clause-given c =
    let b = c.self.inside in
    let count = c.min-count.result in
    let part = c.copy_from_slice.new.self in
    let rest = drop count c.args.buf.now in
    let prefix = take b.end b.bytes in
    let held = drop b.start prefix in
    let is : take (b.end - b.start) (drop b.start b.bytes) ≡ held = held_part b.bytes b.start b.end c.self.invariant.0 in
    let in_range : count ≤ length held = omega (arith, ap length is) in
    let copied : part ≡ take count held = c.copy_from_slice.ensures.after ∙ ap (take count) is in
    sym c.self.view_is ∙ (copied_prefix held part rest count in_range copied ∙ ap (λ behind. take count (part ++ rest) ++ behind) (drop-drop count b.start prefix))
