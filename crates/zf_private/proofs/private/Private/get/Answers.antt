use Rattle.std.proofs.Common.{lit<, rules}
use Rattle.zf_cached.{specs.Acts.{Act}, specs.Views.{acted}}
use Rattle.zf_private.proofs.Calls.{backed_at, exists_there, answer_is, does_at}
use Rattle.zf_private.proofs.private.Private.get.Goals as goal

pub get-requires : goal.get-requires
get-requires g c =
    let e = c.place-b.ensures in (lit< tt, backed_at c.self.view_is c.self.invariant c.requires.sits e.block e.place e.at)

pub returns-clause-does : goal.returns-clause-does
unfolding acted
returns-clause-does g c =
    let e = c.place-b.ensures in let t = c.get.ensures.step in let sits = c.requires.sits in
    does_at c.self.view_is c.self.invariant sits e.block e.place (λ m n. Act.get m n) t.state t.fits t.format t.kept sits.owned

pub invariant_of-self : goal.invariant_of-self
invariant_of-self g c = (returns-clause-does g c).whole

pub returns-clause-value : goal.returns-clause-value
returns-clause-value g c = search (rules, exists_there, answer_is)
