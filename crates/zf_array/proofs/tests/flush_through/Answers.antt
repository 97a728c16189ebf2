use Rattle.std.proofs.Common.{rules}
use Rattle.zf_array.proofs.Coded.{lent_codes}
use Rattle.zf_array.proofs.tests.flush_through.Goals as goal

pub returns-clause-state : goal.returns-clause-state
returns-clause-state g c = search (rules, lent_codes)
