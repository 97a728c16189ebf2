use Rattle.std.proofs.Common.{[]}
use Rattle.zf_cached.specs.Grammar.{space, cut_at}
use Rattle.zf_script.proofs.Lines.{no_view_verb}
use Rattle.zf_script.proofs.views.on_view.Goals as goal

pub returns-in_err-verb_in-in-None-clause-none : goal.returns-in_err-verb_in-in-None-clause-none
returns-in_err-verb_in-in-None-clause-none c =
    rw c.from_residual.ensures (no_view_verb c.args.dims c.args.view c.args.words.now (cut_at space c.args.words.now) [] c.in-None.ensures.none c.in_err-verb_in-in-None.ensures.none)

pub returns-in_err-verb_in-in-Some-clause-none : goal.returns-in_err-verb_in-in-Some-clause-none
returns-in_err-verb_in-in-Some-clause-none c =
    rw c.from_residual-in_err-verb_in-in-Some.ensures (no_view_verb c.args.dims c.args.view c.in-Some.verb.now (cut_at space c.args.words.now) (cut_at space c.in-Some.rest.now) c.in-Some.ensures.parts c.in_err-verb_in-in-Some.ensures.none)
