use Rattle.std.{proofs.Common.{rules, ◌≡◌, ◌∙◌, ap, length, take, arith}, proofs.lemmas.List.{take_all}}
use Rattle.zf_stream.proofs.OnErrors.{on_err}
use Rattle.zf_narrow.{proofs.Reading.{first_gone}, proofs.Given.{gives_all, gives_first, gives_half}}
use Rattle.zf_narrow.proofs.promotion.Promotion.read_one.Goals as goal

pub returns-in_err-count-clause-ungiven : goal.returns-in_err-count-clause-ungiven
returns-in_err-count-clause-ungiven g c = search (rules, on_err, gives_all)

pub returns-then-count-eq0-clause-given : goal.returns-then-count-eq0-clause-given
returns-then-count-eq0-clause-given g c =
    let none : length (take c.in_ok-count.count c.read_values.new.buf) ≡ 0 = ap (λ k. length (take k c.read_values.new.buf)) c.if-count-eq0.true in
    (gives_half _ _ _ _ _ _ c.requires.idle (search rules) c.in_ok-count.ensures.values c.give_half.new.self _ _ none (c.in_ok-count.ensures.end c.if-count-eq0.true) c.give_half.ensures.half).0

pub returns-then-count-eq0-clause-end : goal.returns-then-count-eq0-clause-end
returns-then-count-eq0-clause-end g c =
    let none : length (take c.in_ok-count.count c.read_values.new.buf) ≡ 0 = ap (λ k. length (take k c.read_values.new.buf)) c.if-count-eq0.true in
    (gives_half _ _ _ _ _ _ c.requires.idle (search rules) c.in_ok-count.ensures.values c.give_half.new.self _ _ none (c.in_ok-count.ensures.end c.if-count-eq0.true) c.give_half.ensures.half).1

pub returns-clause-given : goal.returns-clause-given
returns-clause-given g c =
    let four : length c.args.self.now.value ≡ 4 = search rules in
    let long : length c.read_values.new.buf ≡ 4 = search rules in
    let all = take_all c.in_ok-count.count c.read_values.new.buf (omega (arith, long, c.in_ok-count.ensures.some, c.if-count-eq0.false)) ∙ c.give-given.ensures.given in
    record {
      gone = first_gone c.args.self.now c.read_values.new.self (g.S.Source.contents c.args.src.now) (g.S.Source.contents c.read_values.new.src) _ _ (take c.give-given.result c.give-given.new.buf) c.read_values.new.buf c.give-given.new.at c.requires.idle four c.in_ok-count.ensures.values all;
      gave = gives_first c.args.self.now c.read_values.new.self (g.S.Source.contents c.args.src.now) (g.S.Source.contents c.read_values.new.src) _ _ c.requires.idle four c.in_ok-count.ensures.values (take c.give-given.result c.give-given.new.buf) c.read_values.new.buf c.give-given.new.at all;
    }
