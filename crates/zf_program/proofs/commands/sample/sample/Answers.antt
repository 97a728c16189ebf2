use Rattle.std.proofs.Common.{◌∙◌}
use Rattle.zf_program.proofs.Sampling.{Behaves-summary, Behaves-cut_summary, Behaves-unmade}
use Rattle.zf_program.proofs.commands.sample.sample.Goals as goal

pub returns-in-Ok-write_all-clause-behaves : goal.returns-in-Ok-write_all-clause-behaves
returns-in-Ok-write_all-clause-behaves g c = λ src files.
    let line = c.as_bytes.ensures.value ∙ (c.as_str.ensures.value ∙ c.summary_line-line.ensures) in
    Behaves-summary c.args.h c.args.seed c.in-Ok.summary c.as_bytes.result.now src _ _ files c.in-Ok.ensures line c.in-Ok-write_all.ensures.all

pub returns-in-Err-write_all-clause-behaves : goal.returns-in-Err-write_all-clause-behaves
returns-in-Err-write_all-clause-behaves g c = λ src files.
    let line = c.as_bytes.ensures.value ∙ (c.as_str.ensures.value ∙ c.summary_line-line.ensures) in
    Behaves-cut_summary c.args.h c.args.seed c.in-Ok.summary c.as_bytes.result.now src _ _ files c.in-Ok.ensures line c.write_all.ensures.prefix

pub returns-in-Err-clause-behaves : goal.returns-in-Err-clause-behaves
returns-in-Err-clause-behaves g c = λ src files. Behaves-unmade c.args.h c.args.seed src _ files
