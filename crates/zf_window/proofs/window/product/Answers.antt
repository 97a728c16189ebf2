use Rattle.std.proofs.Common.{arith}
use Rattle.zf_base.proofs.Boxes.{product_prefix}
use Rattle.zf_window.proofs.window.product.Goals as goal

pub overflow_mul-result : goal.overflow_mul-result
overflow_mul-result c = omega (arith, product_prefix c.args.size.now c.requires.not_zero)
