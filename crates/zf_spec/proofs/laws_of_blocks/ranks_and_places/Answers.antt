use Rattle.zf_spec.proofs.Ranking.{order_below, order-rank_of, by_place-by_rank, by_rank-by_place}
use Rattle.zf_spec.proofs.laws_of_blocks.ranks_and_places.Goals as goal

pub returns : goal.returns
returns c = record { place = order_below; rank = order-rank_of; by_place = by_place-by_rank; by_rank = by_rank-by_place }
