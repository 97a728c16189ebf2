use Rattle.std.{proofs.Common.{rules, ◌≡◌, ℕ, List, ◌∷◌, refl, ap, ◌∙◌}, specs.Int.{w128}}
use Rattle.std.proofs.lemmas.Int.{to_z-of_z}
use Rattle.zf_cached.specs.Grammar.{space, comma, cut_at}
use Rattle.zf_script.specs.declared.command.Cmd.TheVariants as cmds
use Rattle.zf_script.{specs.declared.verb.ValueVerb.{ValueVerb}, specs.NumberWords.{IsAxesWord}}
use Rattle.zf_script.{specs.Arguments.{IsPositionAndValue}, specs.Verbs.{value_verb_word}}
use Rattle.zf_script.proofs.Lines.{value_fits, get_command, vget_command, set_command, add_command, vset_command, no_get, no_vget, no_set, no_add, no_vset, read_some, read_none, parsed_ok, parsed_err, given, lacking}
use Rattle.zf_script.specs.declared.verb.ValueVerb.TheVariants as value_verbs
use Rattle.zf_script.proofs.parse.parse_line.Goals as goal

-- the words of a line that begins with a verb on one value
words : (line rest : List ℕ) {verb known : ValueVerb} → cut_at space line ≡ value_verb_word verb ∷ cut_at space rest → verb ≡ known → cut_at space line ≡ value_verb_word known ∷ cut_at space rest
words line rest parts is = parts ∙ ap (λ verb. value_verb_word verb ∷ cut_at space rest) is

pub returns-in_default-clause-ok : goal.returns-in_default-clause-ok
returns-in_default-clause-ok c =
    parsed_ok c.args.dims c.args.line.now (cut_at space c.args.line.now) refl c.other_in.result c.ok_or.result c.requires.dimension.0 c.ok_or.ensures.value c.other_in.ensures.command

pub returns-in_default-clause-err : goal.returns-in_default-clause-err
returns-in_default-clause-err c =
    parsed_err c.args.dims c.args.line.now (cut_at space c.args.line.now) refl c.other_in.result c.ok_or.result c.ok_or.ensures.value c.other_in.ensures.none

pub returns-in_err-ok_or-in-Get-clause-err : goal.returns-in_err-ok_or-in-Get-clause-err
returns-in_err-ok_or-in-Get-clause-err c = search (rules, words, lacking, read_none, no_get)

pub returns-in_err-ok_or-in-VGet-clause-err : goal.returns-in_err-ok_or-in-VGet-clause-err
returns-in_err-ok_or-in-VGet-clause-err c = search (rules, words, lacking, read_none, no_vget)

pub returns-in_err-p-in-Set-clause-err : goal.returns-in_err-p-in-Set-clause-err
returns-in_err-p-in-Set-clause-err c = search (rules, words, lacking, read_none, no_set)

pub returns-in_err-p-in-Add-clause-err : goal.returns-in_err-p-in-Add-clause-err
returns-in_err-p-in-Add-clause-err c = search (rules, words, lacking, read_none, no_add)

pub returns-in_err-p-in-VSet-clause-err : goal.returns-in_err-p-in-VSet-clause-err
returns-in_err-p-in-VSet-clause-err c = search (rules, words, lacking, read_none, no_vset)

pub returns-in_ok-ok_or-in-Get-clause-ok : goal.returns-in_ok-ok_or-in-Get-clause-ok
returns-in_ok-ok_or-in-Get-clause-ok c =
    let here = c.in_ok-ok_or-in-Get in
    let same = words c.args.line.now c.in-Some.rest.now c.in-Some.ensures.verb c.in-Get.is in
    let axes = given (IsAxesWord c.args.dims comma 0 c.in-Some.rest.now) c.axes_in.result c.ok_or-in-Get.result here.field-0 c.ok_or-in-Get.ensures.value here.was c.axes_in.ensures.axes in
    read_some c.args.dims c.args.line.now (value_verb_word value_verbs.Get ∷ cut_at space c.in-Some.rest.now) same (cmds.Get here.field-0) c.requires.dimension.0 (get_command c.args.dims c.in-Some.rest.now here.field-0 axes)

pub returns-in_ok-ok_or-in-VGet-clause-ok : goal.returns-in_ok-ok_or-in-VGet-clause-ok
returns-in_ok-ok_or-in-VGet-clause-ok c =
    let here = c.in_ok-ok_or-in-VGet in
    let same = words c.args.line.now c.in-Some.rest.now c.in-Some.ensures.verb c.in-VGet.is in
    let axes = given (IsAxesWord c.args.dims comma 0 c.in-Some.rest.now) c.axes_in-in-VGet.result c.ok_or-in-VGet.result here.field-0 c.ok_or-in-VGet.ensures.value here.was c.axes_in-in-VGet.ensures.axes in
    read_some c.args.dims c.args.line.now (value_verb_word value_verbs.VGet ∷ cut_at space c.in-Some.rest.now) same (cmds.VGet here.field-0) c.requires.dimension.0 (vget_command c.args.dims c.in-Some.rest.now here.field-0 axes)

pub returns-in_ok-p-in-Set-clause-ok : goal.returns-in_ok-p-in-Set-clause-ok
returns-in_ok-p-in-Set-clause-ok c =
    let here = c.in_ok-p-in-Set in
    let same = words c.args.line.now c.in-Some.rest.now c.in-Some.ensures.verb c.in-Set.is in
    let both : IsPositionAndValue c.args.dims (cut_at space c.in-Some.rest.now) here.p here.value = given (λ r. IsPositionAndValue c.args.dims (cut_at space c.in-Some.rest.now) r.0 r.1) c.position_and_value_in.result c.ok_or-in-Set.result (here.p, here.value) c.ok_or-in-Set.ensures.value here.was c.position_and_value_in.ensures.both in
    rw (to_z-of_z w128 here.value (value_fits here.value both.value))
    (read_some c.args.dims c.args.line.now (value_verb_word value_verbs.Set ∷ cut_at space c.in-Some.rest.now) same (cmds.Set here.p here.value) c.requires.dimension.0 (set_command c.args.dims c.in-Some.rest.now here.p here.value both))

pub returns-in_ok-p-in-Add-clause-ok : goal.returns-in_ok-p-in-Add-clause-ok
returns-in_ok-p-in-Add-clause-ok c =
    let here = c.in_ok-p-in-Add in
    let same = words c.args.line.now c.in-Some.rest.now c.in-Some.ensures.verb c.in-Add.is in
    let both : IsPositionAndValue c.args.dims (cut_at space c.in-Some.rest.now) here.p here.value = given (λ r. IsPositionAndValue c.args.dims (cut_at space c.in-Some.rest.now) r.0 r.1) c.position_and_value_in-in-Add.result c.ok_or-in-Add.result (here.p, here.value) c.ok_or-in-Add.ensures.value here.was c.position_and_value_in-in-Add.ensures.both in
    rw (to_z-of_z w128 here.value (value_fits here.value both.value))
    (read_some c.args.dims c.args.line.now (value_verb_word value_verbs.Add ∷ cut_at space c.in-Some.rest.now) same (cmds.Add here.p here.value) c.requires.dimension.0 (add_command c.args.dims c.in-Some.rest.now here.p here.value both))

pub returns-in_ok-p-in-VSet-clause-ok : goal.returns-in_ok-p-in-VSet-clause-ok
returns-in_ok-p-in-VSet-clause-ok c =
    let here = c.in_ok-p-in-VSet in
    let same = words c.args.line.now c.in-Some.rest.now c.in-Some.ensures.verb c.in-VSet.is in
    let both : IsPositionAndValue c.args.dims (cut_at space c.in-Some.rest.now) here.p here.value = given (λ r. IsPositionAndValue c.args.dims (cut_at space c.in-Some.rest.now) r.0 r.1) c.position_and_value_in-in-VSet.result c.ok_or-in-VSet.result (here.p, here.value) c.ok_or-in-VSet.ensures.value here.was c.position_and_value_in-in-VSet.ensures.both in
    rw (to_z-of_z w128 here.value (value_fits here.value both.value))
    (read_some c.args.dims c.args.line.now (value_verb_word value_verbs.VSet ∷ cut_at space c.in-Some.rest.now) same (cmds.VSet here.p here.value) c.requires.dimension.0 (vset_command c.args.dims c.in-Some.rest.now here.p here.value both))
