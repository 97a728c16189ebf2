use Rattle.std.proofs.Common.{◌≡◌, ◌∷◌, ◌++◌, [], ◌+◌, IfNone, refl, subst, ◌<◌, length, map, take, set, decimal, ap, ◌∙◌, arith, length-set, length-take, rules}
use Rattle.std.proofs.lemmas.List.{length-map}
use Rattle.zf_cached.specs.Grammar.{cut_at}
use Rattle.zf_script.proofs.Joined.{begins_with_number, numbers_more, texts_whole, others_more, sizes_word, some_part, fifth_part}
use Rattle.zf_script.proofs.numbers.sizes_in.Goals as goal

pub returns-in_err-number-clause-none : goal.returns-in_err-number-clause-none
returns-in_err-number-clause-none c =
    let at = c.loop-count in
    let rest = at.rest.now in
    rw c.from_residual.ensures (λ ns ok is.
    let number = begins_with_number c.args.byte c.args.word.now ns (map decimal (take at.count at.numbers)) (cut_at c.args.byte rest) c.requires (some_part c.args.byte rest) at.invariant.parts ok is in
    c.in_err-number.ensures.none number.0 number.1 number.2 number.3)

pub returns-in_default-clause-sizes : goal.returns-in_default-clause-sizes
returns-in_default-clause-sizes c =
    let at = c.loop-count in
    let n = c.in_ok-number.number in
    let lt : at.count < length at.numbers = omega (arith, at.invariant.four, c.loop-count-test.true) in
    let last : cut_at c.args.byte at.rest.now ≡ decimal n ∷ [] = subst (λ o. IfNone o (cut_at c.args.byte at.rest.now ≡ decimal n ∷ [])) c.in_default.is c.in_ok-number.ensures.last in
    let cut = texts_whole (cut_at c.args.byte c.args.word.now) (decimal n) at.numbers at.count n lt refl (at.invariant.parts ∙ ap (λ left. map decimal (take at.count at.numbers) ++ left) last) in
    sizes_word c.args.byte c.args.unused c.args.word.now (set at.numbers at.count n) (at.count + 1)
    (length-set at.numbers at.count n ∙ at.invariant.four) (omega arith) (omega arith)
    (numbers_more at.numbers at.count n lt at.invariant.small c.in_ok-number.ensures.number) cut
    (others_more at.numbers at.count n c.args.unused at.invariant.others)

pub returns-clause-none : goal.returns-clause-none
returns-clause-none c = search (rules, length-map, length-take, fifth_part, some_part)
