use Rattle.std.proofs.Common.{rules, refl}
use Rattle.zf_cached.{specs.Kinds.{is_reading}, specs.Runs.{look_setting}}
use Rattle.zf_commands.specs.declared.kinds.Kind.TheVariants as kinds
use Rattle.zf_commands.proofs.Sorting.{same_plain, not_reading}
use Rattle.zf_run.proofs.Allowing.{allowed, not_allowed}
use Rattle.zf_run.proofs.const_arrays.LookedScripted.obey.Goals as goal

pub read-requires-clause-plain : goal.read-requires-clause-plain
read-requires-clause-plain g c = search (rules, same_plain)

pub look_through-requires-clause-plain : goal.look_through-requires-clause-plain
look_through-requires-clause-plain g c = search (rules, same_plain)

pub returns-in-Read-clause-step : goal.returns-in-Read-clause-step
unfolding look_setting
returns-in-Read-clause-step g c = allowed _ _ (kinds.Read c.in-Read.asked) c.in-Read.ensures is_reading (λ d. refl) refl c.read.ensures.does

pub returns-in-Window-clause-step : goal.returns-in-Window-clause-step
unfolding look_setting
returns-in-Window-clause-step g c = allowed _ _ (kinds.Window c.in-Window.asked) c.in-Window.ensures is_reading (λ d. refl) refl c.look_through.ensures.does

pub returns-in_default-clause-step : goal.returns-in_default-clause-step
unfolding look_setting
returns-in_default-clause-step g c = not_allowed _ _ _ c.kind_of.ensures is_reading (λ d. refl) (not_reading _ _ c.in_default.not-Read c.in_default.not-Window)
