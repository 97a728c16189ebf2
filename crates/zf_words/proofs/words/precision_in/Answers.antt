use Rattle.std.{proofs.Common.{subst, arith}, proofs.lemmas.Bool.{false≢true}}
use Rattle.zf_header.{specs.declared.header.Mode.TheVariants.{Precision}, specs.HeaderBits.{IsMode}}
use Rattle.zf_words.proofs.CommandWords.{IsPrecisionWord-number}
use Rattle.zf_words.proofs.words.precision_in.Goals as goal

pub returns-else-is_precision-clause-none : goal.returns-else-is_precision-clause-none
returns-else-is_precision-clause-none c = λ p is.
    let same = IsPrecisionWord-number p c.in_ok-number.number c.args.word.now is (omega arith) c.in_ok-number.ensures.number in
    false≢true (c.if-is_precision.ensures.1 (subst (λ n. IsMode (Precision n)) same is.planes))
