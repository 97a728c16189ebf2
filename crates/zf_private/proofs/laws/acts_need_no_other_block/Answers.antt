use Rattle.std.proofs.Common.{rules}
use Rattle.zf_private.proofs.Alike.{alike-acted, alike-answered}
use Rattle.zf_private.proofs.laws.acts_need_no_other_block.Goals as goal

pub returns : goal.returns
returns g c = search (rules, alike-acted, alike-answered)
