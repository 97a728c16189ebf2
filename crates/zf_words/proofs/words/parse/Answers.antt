use Rattle.std.proofs.Common.{◌≡◌, take, map, length, subst, sym, arith, string_bytes}
use Rattle.std.proofs.lemmas.List.{length-map, take_all}
use Rattle.zf_words.{specs.Words.{BeginsCommand}, specs.Stages.{LeadsTo}}
use Rattle.zf_words.proofs.CommandWords.{word_more, IsUsage-stopped, IsUsage-ended}
use Rattle.zf_words.proofs.words.parse.Goals as goal

pub returns-in_default-clause-usage : goal.returns-in_default-clause-usage
returns-in_default-clause-usage c =
    let words = map string_bytes c.args.words.now in
    let at = c.loop-number.number in
    let more = word_more string_bytes c.args.words.now at c.index-words-number.result c.as_str.result.now c.loop-number-test.true c.index-words-number.is c.as_str.ensures.value in
    IsUsage-stopped words at c.loop-number.stage (omega (arith, length-map c.args.words.now string_bytes, c.loop-number-test.true)) c.loop-number.invariant
    (λ begins. c.in_default.ensures.none (take at words) c.loop-number.invariant (subst BeginsCommand more begins))

pub loop-number-preserved : goal.loop-number-preserved
loop-number-preserved c =
    let words = map string_bytes c.args.words.now in
    let at = c.loop-number.number in
    let more = word_more string_bytes c.args.words.now at c.index-words-number.result c.as_str.result.now c.loop-number-test.true c.index-words-number.is c.as_str.ensures.value in
    subst (λ prefix. LeadsTo prefix c.in-Some.next) (sym more) (c.in-Some.ensures.leads (take at words) c.loop-number.invariant)

pub returns-in_default-stage : goal.returns-in_default-stage
returns-in_default-stage c =
    let words = map string_bytes c.args.words.now in
    let all : take c.loop-number.number words ≡ words = take_all c.loop-number.number words (omega (arith, length-map c.args.words.now string_bytes, c.loop-number-test.false)) in
    record {
      command = tt;
      usage = IsUsage-ended words (length c.args.words.now) c.loop-number.stage (sym (length-map c.args.words.now string_bytes)) (subst (λ prefix. LeadsTo prefix c.loop-number.stage) all c.loop-number.invariant) c.in_default-stage.not-Whole;
    }
