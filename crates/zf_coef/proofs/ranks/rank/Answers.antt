use Rattle.std.proofs.Common.{◌≡◌, ◌^◌, ◌<◌, [], map, length, get_or, pos, sym, ap, ◌∙◌, arith, rules}
use Rattle.std.{proofs.lemmas.List.{get_or-map}, proofs.lemmas.List.Elements.{AllWithin-more_set}}
use mir.Val.{bits}
use Rattle.zf_spec.specs.Numbers.{digits}
use Rattle.zf_coef.{specs.HeldDigits.{ranked_digits}, proofs.Filling.{fill_more}}
use Rattle.zf_coef.proofs.ByRank.{length-ranked_digits, get_or-ranked_digits}
use Rattle.zf_coef.proofs.ranks.rank.Goals as goal

pub loop-rank-preserved : goal.loop-rank-preserved
loop-rank-preserved g c =
    let w = g.T.Lane.width in
    let d = c.args.d in
    let r = c.loop-rank.rank in
    let value = g.T.Lane.value in
    let block = c.args.block.now in
    let place = get_or c.order-places.result.now r 0 in
    let x = c.index-block-places.result in
    let inside : place < length block = search rules in
    let in_digits : r < length c.loop-rank.digits = omega arith in
    let in_order : get_or (map value block) place (pos 0) ≡ value x = get_or-map value block place x (pos 0) inside ∙ ap value (sym c.index-block-places.is) in
    let here : get_or (ranked_digits w d (map value block)) r [] ≡ digits (bits w) (value x) = search (rules, get_or-ranked_digits) in
    record {
      filled = search (rules, fill_more, length-ranked_digits);
      below = AllWithin-more_set c.loop-rank.digits r c.to_digits.result in_digits (λ u. u < 2 ^ g.T.Lane.WIDTH) c.loop-rank.invariant.below c.to_digits.ensures.below;
    }
