use Rattle.std.proofs.Common.{take}
use Rattle.zf_coef.proofs.AnyDigits.{IsAny}
use Rattle.zf_coef.proofs.needed.any_digits.Given as goal

abbrev pub invariant-loop-digit : goal.invariant-loop-digit
invariant-loop-digit l = IsAny l.any (take l.digit-index l.digits)
