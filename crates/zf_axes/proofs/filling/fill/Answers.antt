use Rattle.std.proofs.Common.{◌≡◌, ◌<◌, pos, map, length, replicate, ext_get_or, sym, ap, ◌∙◌, arith}
use Rattle.std.proofs.lemmas.List.{length-map, get_or-map, length-replicate, get_or-replicate}
use Rattle.std.proofs.lemmas.List.Edits.{fill_by_more}
use Rattle.zf_axes.proofs.filling.fill.Goals as goal

pub loop-place-preserved : goal.loop-place-preserved
loop-place-preserved g c = fill_by_more (λ k. c.args.value) c.loop-place.block c.loop-place.place c.args.value (omega arith) c.loop-place.invariant

pub returns-clause-values : goal.returns-clause-values
returns-clause-values g c =
    let value = g.T.Lane.value in
    let v = c.args.value in
    let block = c.loop-place.block in
    let n = length c.args.block.now in
    let long : length (map value block) ≡ n = omega (arith, length-map block value) in
    ext_get_or (pos 0) (map value block) (replicate n (value v)) (long ∙ sym (length-replicate n (value v)))
    (λ k h.
    let below : k < length block = omega (arith, h, length-map block value) in
    get_or-map value block k v (pos 0) below ∙ ap value (c.loop-place.invariant k (omega arith)) ∙ sym (get_or-replicate n k (value v) (pos 0) (omega arith)))
