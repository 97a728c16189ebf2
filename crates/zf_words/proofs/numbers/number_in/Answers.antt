use Rattle.std.{proofs.Common.{rules, ◌≢◌, get_or, lit<}, proofs.lemmas.Str.Pattern.{starts_char}}
use Rattle.zf_words.proofs.Decimals.{decimal_no_plus, decimal_no_zero, parsed_some, parsed_none, zero_alone}
use Rattle.zf_words.proofs.numbers.number_in.Goals as goal

pub returns-then-starts_with-clause-none : goal.returns-then-starts_with-clause-none
returns-then-starts_with-clause-none c = search (rules, starts_char, decimal_no_plus)

pub returns-then-word-gt1-clause-none : goal.returns-then-word-gt1-clause-none
returns-then-word-gt1-clause-none c = search (rules, starts_char, decimal_no_zero)

pub returns-clause-number : goal.returns-clause-number
returns-clause-number c =
    let word = c.args.word.now in
    let plus = starts_char 43 word c.starts_with.result c.starts_with.ensures.cases (lit< tt) (lit< tt) in
    let zero = starts_char 48 word c.starts_with-2.result c.starts_with-2.ensures.cases (lit< tt) (lit< tt) in
    let no_plus : get_or word 0 0 ≢ 43 = λ starts. let yes = plus.1 starts in cc in
    parsed_some word c.parse.result c.ok.result c.parse.ensures.value.0 c.ok.ensures.value no_plus (zero_alone word c.starts_with-2.result zero c.else-starts_with-2.either)

pub returns-clause-none : goal.returns-clause-none
returns-clause-none c = parsed_none c.args.word.now c.parse.result c.ok.result c.parse.ensures.value.0 c.ok.ensures.value
