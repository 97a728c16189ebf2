use Rattle.std.proofs.Common.{rules}
use Rattle.zf_window.proofs.Raster.{product_window}
use Rattle.zf_view.proofs.view.View.elems.Goals as goal

pub count-left-requires : goal.count-left-requires
count-left-requires g c = search (rules, product_window)
