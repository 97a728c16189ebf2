use Rattle.std.proofs.Common.{ap, arith, length}
use Rattle.zf_cached.specs.Grammar.{space}
use Rattle.zf_script.proofs.Joined.{some_part}
use Rattle.zf_script.proofs.verb.value_verb_in.Goals as goal

pub returns-in_err-first-clause-none : goal.returns-in_err-first-clause-none
returns-in_err-first-clause-none c =
    rw c.from_residual.ensures (λ verb rest same. omega (arith, some_part space rest, ap length c.in_err-first.ensures.none, ap length same))
