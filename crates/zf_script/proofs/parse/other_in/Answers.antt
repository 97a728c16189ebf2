use Rattle.zf_cached.specs.Grammar.{space, cut_at}
use Rattle.zf_script.proofs.Lines.{no_word}
use Rattle.zf_script.proofs.parse.other_in.Goals as goal

pub returns-in_err-verb_in-in-None-clause-none : goal.returns-in_err-verb_in-in-None-clause-none
returns-in_err-verb_in-in-None-clause-none c =
    rw c.from_residual.ensures (no_word c.args.dims (cut_at space c.args.line.now) c.args.line.now c.in-None.ensures.none c.in_err-verb_in-in-None.ensures.none)
