use Rattle.std.{proofs.Common.{◌/◌, ◌^◌, arith}, proofs.lemmas.Bool.{eqb-true}}
use Rattle.zf_coef.proofs.AnyDigits.{none_from}
use Rattle.zf_coef.proofs.planes.are_low.Goals as goal

pub returns-then-digits-eq0 : goal.returns-then-digits-eq0
returns-then-digits-eq0 c is =
    let none = eqb-true (c.any_digits.result / 2 ^ 32) 0 is in
    none_from c.any_digits.result 32 c.args.digits.now c.any_digits.ensures (omega arith)
