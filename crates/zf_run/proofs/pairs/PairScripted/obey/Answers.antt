use Rattle.std.proofs.Common.{rules, refl}
use Rattle.zf_cached.specs.Kinds.{is_windowless}
use Rattle.zf_twoway.specs.Runs.{twoway_setting}
use Rattle.zf_commands.specs.declared.kinds.Kind.TheVariants as kinds
use Rattle.zf_commands.proofs.Sorting.{same_plain, not_windowless}
use Rattle.zf_run.proofs.Allowing.{allowed, not_allowed}
use Rattle.zf_run.proofs.pairs.PairScripted.obey.Goals as goal

pub read-requires-clause-plain : goal.read-requires-clause-plain
read-requires-clause-plain g c = search (rules, same_plain)

pub write-requires-clause-plain : goal.write-requires-clause-plain
write-requires-clause-plain g c = search (rules, same_plain)

pub returns-in-Read-clause-step : goal.returns-in-Read-clause-step
unfolding twoway_setting
returns-in-Read-clause-step g c = allowed _ _ (kinds.Read c.in-Read.asked) c.in-Read.ensures is_windowless (λ d. refl) refl c.read.ensures.does

pub returns-in-Write-clause-step : goal.returns-in-Write-clause-step
unfolding twoway_setting
returns-in-Write-clause-step g c = allowed _ _ (kinds.Write c.in-Write.asked) c.in-Write.ensures is_windowless (λ d. refl) refl c.write.ensures.does

pub returns-in_default-clause-step : goal.returns-in_default-clause-step
unfolding twoway_setting
returns-in_default-clause-step g c = not_allowed _ _ _ c.kind_of.ensures is_windowless (λ d. refl) (not_windowless _ _ c.in_default.not-Read c.in_default.not-Write)
