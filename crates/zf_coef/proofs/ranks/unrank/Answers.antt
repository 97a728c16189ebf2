use Rattle.std.proofs.Common.{◌≡◌, [], map, get_or, pos, arith}
use Rattle.std.proofs.lemmas.List.{get_or-map, length-map, map-set}
use mir.Val.{bits}
use Rattle.zf_spec.specs.Numbers.{field, value_of}
use Rattle.zf_coef.{specs.HeldDigits.{digits_in}, proofs.ByRank.{ranks_more}}
use Rattle.zf_coef.proofs.ranks.unrank.Goals as goal

pub loop-rank-preserved : goal.loop-rank-preserved
loop-rank-preserved g c =
    let w = g.T.Lane.width in
    let r = c.loop-rank.rank in
    let value = g.T.Lane.value in
    let block = c.loop-rank.block in
    let digits = c.args.digits.now in
    let values = map (value_of w) (digits_in (bits w) digits) in
    let x = c.from_digits.result in
    let long = length-map digits (field (bits w)) in
    let by_place = get_or-map (value_of w) (digits_in (bits w) digits) r [] (pos 0) (omega arith) in
    let by_digits = get_or-map (field (bits w)) digits r 0 [] (omega arith) in
    let here : value x ≡ get_or values r (pos 0) =
    cc (c.from_digits.ensures.value, by_place) in
    let more =
    ranks_more c.args.d (map value block) values r (value x) (omega (arith, length-map block value))
    (omega arith) c.loop-rank.invariant here in
    rw (map-set, c.order-places.ensures.places) more
