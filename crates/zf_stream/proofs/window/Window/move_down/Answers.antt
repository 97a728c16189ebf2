use Rattle.std.proofs.Common.{◌≡◌, ◌+◌, ◌-◌, ◌*◌, ◌/◌, take, drop, sym, ap, ◌∙◌, arith}
use Rattle.std.{proofs.lemmas.List.Edits.{take-paste}, proofs.lemmas.List.{length-drop}}
use Rattle.std.proofs.Math.Seq.{paste}
use Rattle.zf_stream.{specs.Windows.{left_of}, proofs.Windows.{bits_moved}}
use Rattle.zf_stream.proofs.window.Window.move_down.Goals as goal

pub returns-clause-bits : goal.returns-clause-bits
returns-clause-bits c =
    let words = c.self.inside.words.items in
    let bits = c.self.inside.bits in
    let at = c.self.inside.at in
    let first = at / 64 in
    let end = bits / 64 in
    let n = end - first in
    let held = c.self.invariant in
    let whole : bits ≡ 64 * end = omega (arith, held.whole (ap (λ w. w.ended) c.self.view_is ∙ c.requires)) in
    let same : 0 + n ≡ n = omega arith in
    let copied : take n c.copy_within.new.self.items ≡ take n (drop first words) =
    ap (take n) c.copy_within.ensures.items ∙ ap (λ k. take k (paste words 0 (drop first words) n)) (sym same)
    ∙ take-paste words 0 (drop first words) n (omega arith) (omega (arith, length-drop first words, held.within)) in
    bits_moved words c.copy_within.new.self.items bits at first end copied (omega (arith, held.within, c.copy_within.ensures.len)) (omega (arith, held.within)) whole (omega arith) held.at_within
    ∙ ap left_of c.self.view_is
