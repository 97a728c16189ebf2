use Rattle.std.proofs.Common.{rules, ◌≡◌, ◌<◌, ◌^◌, ◌↔◌, ◌∷◌, [], get_or, take, map, IsOk, IfOk, ap, sym, subst, ◌∙◌, arith, length-append, length-set, decimal}
use Rattle.std.proofs.lemmas.Iterator.Consumers.{YieldsList-turn, YieldsList-end}
use Rattle.zf_spec.{specs.Grid.{IsShape}, proofs.Counting.{four_elements}}
use Rattle.zf_words.proofs.ShapeWords.{parts_of, YieldsList-parts, four_parts, some_part, part_is_number, sizes_more, texts_more, shape_some, shape_none}
use Rattle.zf_words.proofs.numbers.shape_in.Goals as goal

pub returns-then-dims-eq4-clause-none : goal.returns-then-dims-eq4-clause-none
returns-then-dims-eq4-clause-none c =
    let word = c.args.word.now in
    let split = c.split-part-items in
    let turn = YieldsList-turn (YieldsList-parts word split.result c.into_iter-part-iterator.ensures.into_iter_gives split.ensures.text split.ensures.has_more split.ensures.pattern) c.loop-part.yielded _ c.loop-part.yielded_by _ _ c.in-Some.part c.in-Some.is c.next.ensures.steps in
    λ ns shape is. omega (arith, turn.0, four_parts word ns shape is, c.loop-part.invariant.count, c.if-dims-eq4.true)

pub returns-in_err-sizes-clause-none : goal.returns-in_err-sizes-clause-none
returns-in_err-sizes-clause-none c =
    let word = c.args.word.now in
    let split = c.split-part-items in
    let turn = YieldsList-turn (YieldsList-parts word split.result c.into_iter-part-iterator.ensures.into_iter_gives split.ensures.text split.ensures.has_more split.ensures.pattern) c.loop-part.yielded _ c.loop-part.yielded_by _ _ c.in-Some.part c.in-Some.is c.next.ensures.steps in
    rw c.from_residual.ensures (search (rules, part_is_number))

pub loop-part-preserved : goal.loop-part-preserved
loop-part-preserved c =
    let at = c.loop-part in
    let number = c.in_ok-sizes.field-0 in
    record {
      count = omega (arith, length-append at.yielded (c.in-Some.part ∷ []), at.invariant.count);
      four_at_most = omega arith;
      four = length-set at.sizes at.dims number ∙ at.invariant.four;
      small = sizes_more (λ n. n < 2 ^ 64) at.sizes at.dims number (omega arith) at.invariant.small (omega arith);
      parts = texts_more (λ part. part.now) at.yielded c.in-Some.part at.sizes at.dims number (omega arith) at.invariant.parts c.in_ok-sizes.ensures.number;
    }

pub new-requires : goal.new-requires
new-requires c =
    let word = c.args.word.now in
    let split = c.split-part-items in
    let end = YieldsList-end (YieldsList-parts word split.result c.into_iter-part-iterator.ensures.into_iter_gives split.ensures.text split.ensures.has_more split.ensures.pattern) c.loop-part.yielded _ c.loop-part.yielded_by _ _ c.in-None.is c.next.ensures.steps in
    search (rules, some_part)

pub returns : goal.returns
returns c =
    let word = c.args.word.now in
    let sizes = take c.loop-part.dims c.loop-part.sizes in
    let split = c.split-part-items in
    let end = YieldsList-end (YieldsList-parts word split.result c.into_iter-part-iterator.ensures.into_iter_gives split.ensures.text split.ensures.has_more split.ensures.pattern) c.loop-part.yielded _ c.loop-part.yielded_by _ _ c.in-None.is c.next.ensures.steps in
    let cut : parts_of word ≡ map decimal sizes = sym end.0 ∙ c.loop-part.invariant.parts in
    let is_sizes : take c.loop-part.dims (get_or c.loop-part.sizes 0 0 ∷ get_or c.loop-part.sizes 1 0 ∷ get_or c.loop-part.sizes 2 0 ∷ get_or c.loop-part.sizes 3 0 ∷ []) ≡ sizes = ap (take c.loop-part.dims) (four_elements c.loop-part.sizes c.loop-part.invariant.four) in
    let iff : IsOk c.new.result ↔ IsShape sizes = subst (λ ns. IsOk c.new.result ↔ IsShape ns) is_sizes c.new.ensures.shape in
    let same : IfOk c.new.result (λ shape. shape ≡ sizes) = subst (λ ns. IfOk c.new.result (λ shape. shape ≡ ns)) is_sizes c.new.ensures.sizes in record {
      shape = shape_some word sizes c.new.result c.ok.result cut iff same c.ok.ensures.value;
      none = shape_none word sizes c.new.result c.ok.result c.loop-part.invariant.small cut iff c.ok.ensures.value;
    }
