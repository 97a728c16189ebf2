use Rattle.std.proofs.Common.{rules, ◌≡◌, ℕ, List, [], ◌∷◌, ◌++◌, None, IfNone, codes, sym, subst}
use Rattle.zf_words.{specs.Words.{IsSpelled, BeginsCommand}, specs.Stages.{script_command}}
use Rattle.zf_words.proofs.words.behind_file.Goals as goal

pub returns-in-twoway-clause-none : goal.returns-in-twoway-clause-none
returns-in-twoway-clause-none c =
    let same : c.args.word.now ≡ codes "twoway" = first_of (cc, search rules) in
    subst (λ word. IfNone c.behind_twoway.result ((words : List (List ℕ)) → IsSpelled (script_command c.args.script c.args.name None) words → BeginsCommand (words ++ word ∷ []) → ⊥)) (sym same) c.behind_twoway.ensures.none
