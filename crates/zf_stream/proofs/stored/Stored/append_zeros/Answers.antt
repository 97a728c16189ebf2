use Rattle.std.proofs.Common.{◌≡◌, ◌++◌, ℤ, pos, List, map, take, replicate, sym, ap, ◌∙◌}
use Rattle.std.proofs.lemmas.List.{map-append}
use Rattle.zf_stream.proofs.Places.{length-behind, put_behind}
use Rattle.zf_stream.proofs.stored.Stored.append_zeros.Goals as goal

pub returns-clause-items : goal.returns-clause-items
returns-clause-items g c =
    let value = g.T.Lane.value in
    let held = c.self.inside.held in
    let count = c.args.count in
    let places = c.make_ready.new.places in
    let lent = c.deref_mut.result.now in
    let same = c.deref_mut.ensures.value in
    let ready = c.make_ready.ensures.ready in
    let long = length-behind held count places.len places.items lent same (sym places.ok.0) ready in
    let zeros : map value c.fill.new.block ≡ replicate count (pos 0) =
    c.fill.ensures.values ∙ ap (λ k. replicate k (value c.zero.result)) long ∙ ap (replicate count) c.zero.ensures.value in
    ap (map value) (put_behind held count places.len places.items lent c.fill.new.block same (sym places.ok.0) ready (c.fill.auto.block ∙ long))
    ∙ map-append value (take held places.items) c.fill.new.block
    ∙ ap (λ vs. map value vs ++ map value c.fill.new.block) (c.make_ready.ensures.held ∙ ap (λ h. h.items) c.self.view_is)
    ∙ ap (λ (vs : List ℤ). map value c.args.self.now.items ++ vs) zeros
