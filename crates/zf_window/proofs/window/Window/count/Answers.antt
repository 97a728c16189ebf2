use Rattle.std.proofs.Common.{rules}
use Rattle.zf_base.proofs.Extents.{length-used_axes}
use Rattle.zf_window.proofs.Raster.{product_used}
use Rattle.zf_window.proofs.window.Window.count.Goals as goal

pub returns-clause-value : goal.returns-clause-value
returns-clause-value c = search (rules, product_used)

pub returns-clause-axes : goal.returns-clause-axes
returns-clause-axes c = search (rules, length-used_axes)
