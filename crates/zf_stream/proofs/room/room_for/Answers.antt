use Rattle.std.proofs.Common.{ap, ◌∙◌, arith}
use Rattle.zf_spec.specs.Grid.{product}
use Rattle.zf_bits.proofs.Appending.{length-Appends}
use Rattle.zf_pad.proofs.Slabs.{product-with_rows}
use Rattle.zf_stream.proofs.Slabwise.{are_pieces}
use Rattle.zf_stream.proofs.room.room_for.Goals as goal

pub with_rows-slab-requires-clause-some : goal.with_rows-slab-requires-clause-some
with_rows-slab-requires-clause-some g c =
    (are_pieces c.args.h.now.shape c.min-rows.result c.most_rows.result c.rows_of.result c.dims-dims.ensures.shape c.min-rows.ensures c.rows_of.ensures c.most_rows.ensures.some c.most_rows.ensures.whole).some

pub returns-clause-rows : goal.returns-clause-rows
returns-clause-rows g c =
    are_pieces c.args.h.now.shape c.min-rows.result c.most_rows.result c.rows_of.result c.dims-dims.ensures.shape c.min-rows.ensures c.rows_of.ensures c.most_rows.ensures.some c.most_rows.ensures.whole

pub returns-clause-values : goal.returns-clause-values
returns-clause-values g c =
    c.in_ok-values.ensures.len ∙ c.values.ensures.value ∙ ap product c.with_rows-slab.ensures ∙ product-with_rows c.min-rows.result c.args.h.now.shape c.dims-dims.ensures.shape.some_dimension

pub returns-clause-fits : goal.returns-clause-fits
returns-clause-fits g c =
    let all = length-Appends c.write.ensures.bits in
    omega (arith, all, c.write.ensures.room, c.in_ok-reserve.ensures.ok, c.longest_code-longest.ensures.value, c.from.ensures)
