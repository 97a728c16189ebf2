use Rattle.zf_array_tests.proofs.private.one_goes.Goals as goal

pub returns-in-One-clause-apart : goal.returns-in-One-clause-apart
returns-in-One-clause-apart g c = λ b zero one. c.goes-in-One.ensures.apart b one zero
