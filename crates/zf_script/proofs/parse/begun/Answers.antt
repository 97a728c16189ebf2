use Rattle.std.proofs.Common.{rules}
use Rattle.zf_script.proofs.Lines.{no_verb, nothing_first}
use Rattle.zf_script.proofs.parse.begun.Goals.{in_default-via-then-first-lt1, in_default-via-else-first-lt1+in_default-1}
use Rattle.zf_script.proofs.parse.begun.Goals as goal

pub returns-in_err-verb_in-in_default-clause-none : goal.returns-in_err-verb_in-in_default-clause-none
returns-in_err-verb_in-in_default-clause-none c = search (rules, in_default-via-then-first-lt1, nothing_first, in_default-via-else-first-lt1+in_default-1, no_verb)
