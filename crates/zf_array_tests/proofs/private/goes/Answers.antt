use Rattle.std.proofs.Common.{refl, length}
use Rattle.zf_cache.proofs.Steps.{empty_fits}
use Rattle.zf_private.proofs.Ready.{ready_after, ready_beside, own_before}
use Rattle.zf_array_tests.proofs.private.goes.Goals as goal

pub returns-in-Get-clause-other : goal.returns-in-Get-clause-other
returns-in-Get-clause-other g c = ready_beside _ 1 _ _ _ _ c.get.ensures.does.step.format c.args.view.now c.args.other.now c.requires.other c.get.ensures.does.others c.requires.apart

pub returns-in-Get-clause-apart : goal.returns-in-Get-clause-apart
returns-in-Get-clause-apart g c = λ b mine own. c.requires.apart b (own_before c.args.view.now c.get.new.self c.get.ensures.does.same b mine) own

pub returns-in-Set-clause-other : goal.returns-in-Set-clause-other
returns-in-Set-clause-other g c = ready_beside _ 1 _ _ _ _ c.set.ensures.does.step.format c.args.view.now c.args.other.now c.requires.other c.set.ensures.does.others c.requires.apart

pub returns-in-Set-clause-apart : goal.returns-in-Set-clause-apart
returns-in-Set-clause-apart g c = λ b mine own. c.requires.apart b (own_before c.args.view.now c.set.new.self c.set.ensures.does.same b mine) own

pub returns-in-Add-clause-other : goal.returns-in-Add-clause-other
returns-in-Add-clause-other g c = ready_beside _ 1 _ _ _ _ c.add.ensures.does.step.format c.args.view.now c.args.other.now c.requires.other c.add.ensures.does.others c.requires.apart

pub returns-in-Add-clause-apart : goal.returns-in-Add-clause-apart
returns-in-Add-clause-apart g c = λ b mine own. c.requires.apart b (own_before c.args.view.now c.add.new.self c.add.ensures.does.same b mine) own

pub returns-in-Flush-clause-other : goal.returns-in-Flush-clause-other
returns-in-Flush-clause-other g c = ready_beside _ 1 _ _ _ _ c.flush.ensures.does.step.format c.args.view.now c.args.other.now c.requires.other c.flush.ensures.does.others c.requires.apart

pub returns-in-Flush-clause-apart : goal.returns-in-Flush-clause-apart
returns-in-Flush-clause-apart g c = λ b mine own. c.requires.apart b (own_before c.args.view.now c.flush.new.self c.flush.ensures.does.same b mine) own

pub returns-in-Discard-clause-ready : goal.returns-in-Discard-clause-ready
returns-in-Discard-clause-ready g c =
    let fits = empty_fits _ _ _ c.discard.new.self.cache (length c.args.view.now.cache.tags) c.discard.ensures.empty in
    ready_after _ 1 _ _ _ _ refl c.args.view.now c.discard.new.self c.requires.ready c.discard.ensures.same c.discard.ensures.whole fits

pub returns-in-Discard-clause-apart : goal.returns-in-Discard-clause-apart
returns-in-Discard-clause-apart g c = λ b mine own. c.requires.apart b (own_before c.args.view.now c.discard.new.self c.discard.ensures.same b mine) own
