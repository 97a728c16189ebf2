use Rattle.std.proofs.Common.{rules, ◌≡◌, ◌++◌, ◌∷◌, [], None, ap, sym, subst, ◌∙◌}
use Rattle.zf_words.{specs.Stages.{script_word, LeadsTo}, proofs.Completed.{IsSpelled-script}}
use Rattle.zf_words.proofs.CommandWords.{IsRateWord-begun, IsRateWord-begun_new}
use Rattle.zf_words.proofs.words.Stage.next.Goals as goal

pub returns-in_err-rate_in-in-AtRate-clause-none : goal.returns-in_err-rate_in-in-AtRate-clause-none
returns-in_err-rate_in-in-AtRate-clause-none c =
    rw c.from_residual-in_err-rate_in-in-AtRate.ensures (λ words leads begins.
    let rate = IsRateWord-begun c.in-AtRate.task words c.in-AtRate.ty c.in-AtRate.shape c.args.word.now (subst (LeadsTo words) c.in-AtRate.is leads) begins in
    c.in_err-rate_in-in-AtRate.ensures.none rate.0 rate.1)

pub returns-in-Shaped-clause-none : goal.returns-in-Shaped-clause-none
returns-in-Shaped-clause-none c = rw c.in-Shaped.is c.behind_shape.ensures.none

pub returns-in_err-bits-in-NamedShaped-clause-none : goal.returns-in_err-bits-in-NamedShaped-clause-none
returns-in_err-bits-in-NamedShaped-clause-none c =
    rw c.from_residual-in_err-bits-in-NamedShaped.ensures (λ words leads begins.
    let arm = c.in-NamedShaped in
    let rate = IsRateWord-begun_new words arm.name arm.ty arm.shape c.args.word.now (subst (LeadsTo words) arm.is leads) begins in
    c.in_err-bits-in-NamedShaped.ensures.none rate.0 rate.1)

pub returns-in_err-precision_in-in-AtPrecision-clause-none : goal.returns-in_err-precision_in-in-AtPrecision-clause-none
returns-in_err-precision_in-in-AtPrecision-clause-none c = search rules

pub returns-in_err-lines_in-in-AtLines-clause-none : goal.returns-in_err-lines_in-in-AtLines-clause-none
returns-in_err-lines_in-in-AtLines-clause-none c = search rules

pub returns-in_err-lines_in-in-AtTwoWay-clause-none : goal.returns-in_err-lines_in-in-AtTwoWay-clause-none
returns-in_err-lines_in-in-AtTwoWay-clause-none c = search rules

pub returns-in-Whole-clause-none : goal.returns-in-Whole-clause-none
returns-in-Whole-clause-none c = rw c.in-Whole.is c.behind_whole.ensures.none

pub returns-in_ok-new-in-Scripting-clause-leads : goal.returns-in_ok-new-in-Scripting-clause-leads
returns-in_ok-new-in-Scripting-clause-leads c = λ words leads.
    let script = c.in-Scripting.script in
    let name = c.in_ok-new-in-Scripting.field-0 in
    let named = c.in_ok-new-in-Scripting.ensures.name in
    let first : words ≡ script_word script ∷ [] = subst (LeadsTo words) c.in-Scripting.is leads in
    rw c.command-in-Scripting.ensures (IsSpelled-script script name None (words ++ c.args.word.now ∷ []) named.0 tt
    (ap (λ prefix. prefix ++ c.args.word.now ∷ []) first ∙ ap (λ word. script_word script ∷ word ∷ []) (sym named.1)))

pub returns-in-Compressing-clause-none : goal.returns-in-Compressing-clause-none
returns-in-Compressing-clause-none c = rw c.in-Compressing.is c.behind_compress.ensures.none
