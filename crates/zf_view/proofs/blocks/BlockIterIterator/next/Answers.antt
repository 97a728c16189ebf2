use Rattle.std.proofs.Common.{◌<◌, sym, ◌∙◌, arith, rules}
use Rattle.zf_spec.specs.Grid.{blocks}
use Rattle.zf_view.proofs.BlockItems.{items_from-below, length-items_from}
use Rattle.zf_view.proofs.blocks.BlockIterIterator.next.Goals as goal

pub returns-clause-steps : goal.returns-clause-steps
returns-clause-steps c =
    let it = c.self.inside in
    let below : it.next < blocks it.shape = omega (arith, c.self.invariant.next_at_most, c.self.invariant.end_is, c.if-self.false) in
    sym c.self.view_is ∙ items_from-below it.shape it.next c.extent.result below c.extent.ensures.origin c.extent.ensures.size

pub returns-clause-goes : goal.returns-clause-goes
returns-clause-goes c = search (rules, length-items_from)
