use Rattle.zf_spec.proofs.Rising.{order_moves, order_rises, order_only}
use Rattle.zf_spec.proofs.laws_of_blocks.order_of_places.Goals as goal

pub returns : goal.returns
returns c = record { arrangement = order_moves; rises = order_rises; only = order_only }
