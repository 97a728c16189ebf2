use Rattle.std.proofs.Common.{rules, ◌≡◌, None}
use Rattle.zf_words.specs.declared.command.Caching.TheVariants.{Direct}
use Rattle.zf_words.specs.declared.command.Command.TheVariants.{Run, Look}
use Rattle.zf_words.proofs.CommandWords.{none_behind}
use Rattle.zf_words.proofs.words.behind_whole.Goals as goal

pub returns-in-Run-default-Direct-None-clause-none : goal.returns-in-Run-default-Direct-None-clause-none
returns-in-Run-default-Direct-None-clause-none c =
    let run = c.in-Run-default-Direct-None in
    let same : c.args.command ≡ Run run.name (Direct None) = first_of (cc, cc (run.is, run.caching-is, run.caching-0-is), search rules) in
    none_behind c.args.command (Run run.name (Direct None)) c.args.word.now c.behind_file.result same c.behind_file.ensures.none

pub returns-in-Look-default-None-clause-none : goal.returns-in-Look-default-None-clause-none
returns-in-Look-default-None-clause-none c =
    let look = c.in-Look-default-None in
    let same : c.args.command ≡ Look look.name None = first_of (cc, cc (look.is, look.lines-is), search rules) in
    none_behind c.args.command (Look look.name None) c.args.word.now c.behind_file-in-Look-default-None.result same c.behind_file-in-Look-default-None.ensures.none
