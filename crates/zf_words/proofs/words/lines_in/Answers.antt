use Rattle.std.{proofs.Common.{Some, subst, arith}, proofs.lemmas.Bool.{false≢true}}
use Rattle.zf_words.{specs.Words.{IsLines}, proofs.CommandWords.{IsLinesWord-number}}
use Rattle.zf_words.proofs.words.lines_in.Goals as goal

pub returns-else-is_line_count-clause-none : goal.returns-else-is_line_count-clause-none
returns-else-is_line_count-clause-none c = λ l is.
    let same = IsLinesWord-number l c.in_ok-number.number c.args.word.now is (omega arith) c.in_ok-number.ensures.number in
    false≢true (c.if-is_line_count.ensures.1 (subst (λ n. IsLines (Some n)) same is.lines))
