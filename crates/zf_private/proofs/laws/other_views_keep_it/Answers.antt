use Rattle.std.proofs.Common.{rules}
use Rattle.zf_private.{proofs.Calls.{own_state}, proofs.Others.{other_codes_fit, other_codes_alike}}
use Rattle.zf_private.proofs.laws.other_views_keep_it.Goals as goal

pub returns : goal.returns
returns g c = search (rules, other_codes_fit, other_codes_alike, own_state)
