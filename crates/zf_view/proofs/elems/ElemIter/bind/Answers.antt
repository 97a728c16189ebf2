use Rattle.std.proofs.Common.{rules}
use Rattle.zf_window.proofs.Raster.{product_window}
use Rattle.zf_view.proofs.elems.ElemIter.bind.Goals as goal

pub count-requires : goal.count-requires
count-requires g c = search (rules, product_window)
