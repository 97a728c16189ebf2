use Rattle.std.proofs.Common.{rules}
use Rattle.zf_view.proofs.BlockItems.{length-items_from}
use Rattle.zf_view.proofs.blocks.BlockIterExactSizeIterator.len.Goals as goal

pub returns-clause-value : goal.returns-clause-value
returns-clause-value c = search (rules, length-items_from)
