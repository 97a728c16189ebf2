use Rattle.std.{proofs.Common.{◌≡◌, length, replicate, sym, ap, subst, ◌∙◌, rules}, proofs.lemmas.List.{length-replicate}}
use Rattle.zf_lines.{specs.Rows.{HasSize}, specs.Seen.{Seen}, proofs.Sizes.{HasSize-replicate}}
use Rattle.zf_cache.{specs.Kept.{tag_at}, specs.Bodies.{IsBlank}, proofs.Tags.{counts_lines, masks_lines}, proofs.Touches.{no_tag}}
use Rattle.zf_cache.proofs.body.Body.new.Goals as goal

pub returns : goal.returns
returns g c =
    let n = c.args.lines in let tags = c.in_ok-tags.tags in let lines = c.in_ok-lines.lines in
    let count : length tags.items ≡ n = search (rules, length-replicate) in
    let rows : HasSize lines.blocks n c.args.len = subst (λ (s : Seen g.row.T.Denot). HasSize s.blocks n c.args.len) (sym c.in_ok-lines.ensures) (HasSize-replicate n c.args.len c.zero.result) in
    let sized : HasSize lines.blocks (length tags.items) c.args.len = subst (λ m. HasSize lines.blocks m c.args.len) (sym count) rows in
    let zeros : tags.items ≡ replicate n 0 = c.in_ok-tags.ensures.items_if_clones_equal (λ y e. e) in
    let blank : IsBlank lines.written tags.items = λ l past. ap (λ ts. tag_at ts l) zeros ∙ no_tag n l in
    search (rules, counts_lines, masks_lines)
