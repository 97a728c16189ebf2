use Rattle.std.proofs.Common.{◌≡◌, sym, ap, ◌∙◌, ◌<◌, length, arith}
use Rattle.zf_index.{specs.Spans.{Index, even_index, index_in, place, span_at}, proofs.Even.{even_count}}
use Rattle.zf_index.{specs.declared.span.Span.{Span}, proofs.Places.{even_len, even_place}}
use Rattle.zf_index.proofs.index.Spans.span.Goals as goal

pub returns-in-Even : goal.returns-in-Even
returns-in-Even g c =
    let start = c.in-Even.start in
    let len = c.in-Even.len in
    let count = c.in-Even.count in
    let b = c.args.b in
    let now : even_index start len count ≡ c.args.self.now = ap index_in (sym c.in-Even.is) ∙ c.self.view_is in
    let lt : b < count = omega (arith, c.requires, ap (λ (i : Index). length i.lens) now, even_count start len count) in
    let Of : Index → Span = λ i. span_at i b in
    ap (λ k. record { at = k; len = len }) (sym (even_place start len count b (omega (arith, lt))))
    ∙ ap (λ k. record { at = place (even_index start len count) b; len = k }) (sym (even_len start len count b lt))
    ∙ ap Of now
