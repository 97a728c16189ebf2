use Rattle.std.{proofs.Common.{subst, arith}, proofs.lemmas.List.{take_more, take_all}}
use Rattle.zf_coef.proofs.AnyDigits.{IsAny, any_none, any_more}
use Rattle.zf_coef.proofs.needed.any_digits.Goals as goal

pub loop-digit-init : goal.loop-digit-init
loop-digit-init c = any_none

pub loop-digit-preserved : goal.loop-digit-preserved
loop-digit-preserved c =
    rw (take_more c.args.digits.now c.loop-digit.digit-index 0 (omega arith))
    (any_more c.loop-digit.any _ _ c.loop-digit.invariant)

pub returns : goal.returns
returns c = subst (IsAny c.loop-digit.any) (take_all c.loop-digit.digit-index c.args.digits.now (omega arith)) c.loop-digit.invariant
