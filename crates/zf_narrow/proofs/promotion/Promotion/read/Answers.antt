use Rattle.std.{proofs.Common.{rules, ◌≡◌, ap, length, take, arith}}
use Rattle.zf_stream.proofs.OnErrors.{on_err}
use Rattle.zf_narrow.{specs.Promotions.{IsIdle}, proofs.Given.{gives_all, gives_half}}
use Rattle.zf_narrow.proofs.promotion.Promotion.read.Goals as goal

pub returns-in_err-count-clause-ungiven : goal.returns-in_err-count-clause-ungiven
returns-in_err-count-clause-ungiven g c = search (rules, on_err, gives_all)

pub returns-then-count-eq0-clause-given : goal.returns-then-count-eq0-clause-given
returns-then-count-eq0-clause-given g c =
    let idle : IsIdle c.args.self.now = record { all_given = omega (arith, c.if-self-lt4.false, c.args.self.now.within); unspent = search rules } in
    let four : length c.args.self.now.value ≡ 4 = search rules in
    let none : length (take c.in_ok-count.count c.read_values.new.buf) ≡ 0 = ap (λ k. length (take k c.read_values.new.buf)) c.if-count-eq0.true in
    (gives_half c.args.self.now c.read_values.new.self (g.S.Source.contents c.args.src.now) (g.S.Source.contents c.read_values.new.src) _ _ idle four c.in_ok-count.ensures.values c.give_half.new.self _ _ none (c.in_ok-count.ensures.end c.if-count-eq0.true) c.give_half.ensures.half).0

pub returns-then-count-eq0-clause-end : goal.returns-then-count-eq0-clause-end
returns-then-count-eq0-clause-end g c =
    let idle : IsIdle c.args.self.now = record { all_given = omega (arith, c.if-self-lt4.false, c.args.self.now.within); unspent = search rules } in
    let four : length c.args.self.now.value ≡ 4 = search rules in
    let none : length (take c.in_ok-count.count c.read_values.new.buf) ≡ 0 = ap (λ k. length (take k c.read_values.new.buf)) c.if-count-eq0.true in
    (gives_half c.args.self.now c.read_values.new.self (g.S.Source.contents c.args.src.now) (g.S.Source.contents c.read_values.new.src) _ _ idle four c.in_ok-count.ensures.values c.give_half.new.self _ _ none (c.in_ok-count.ensures.end c.if-count-eq0.true) c.give_half.ensures.half).1

pub returns-clause-given : goal.returns-clause-given
returns-clause-given g c =
    let idle : IsIdle c.args.self.now = record { all_given = omega (arith, c.if-self-lt4.false, c.args.self.now.within); unspent = search rules } in
    let four : length c.args.self.now.value ≡ 4 = search rules in
    gives_all c.args.self.now c.read_values.new.self (g.S.Source.contents c.args.src.now) (g.S.Source.contents c.read_values.new.src) _ _ idle four c.in_ok-count.ensures.values
