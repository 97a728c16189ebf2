use Rattle.std.proofs.Common.{ap, ◌∙◌, arith}
use Rattle.zf_spec.specs.Grid.{product}
use Rattle.zf_pad.proofs.Slabs.{product-with_rows}
use Rattle.zf_stream.{proofs.FromPrefix.{header_is}, proofs.Slabwise.{are_pieces}}
use Rattle.zf_stream.proofs.restore_room.restore_room.Goals as goal

pub longest_code-longest-requires-clause-mode : goal.longest_code-longest-requires-clause-mode
longest_code-longest-requires-clause-mode g c = (header_is c.args.prefix.now c.args.h.now c.args.header_len c.requires.begun).mode

pub returns-clause-rows : goal.returns-clause-rows
returns-clause-rows g c =
    are_pieces c.args.h.now.shape c.min-rows.result c.most_rows.result c.rows_of.result c.dims-dims.ensures.shape c.min-rows.ensures c.rows_of.ensures c.most_rows.ensures.some c.most_rows.ensures.whole

pub returns-clause-held : goal.returns-clause-held
returns-clause-held g c = omega (arith, c.in_ok-window.ensures.room)

pub returns-clause-fill : goal.returns-clause-fill
returns-clause-fill g c = omega (arith, c.in_ok-window.ensures.room, c.longest_code-longest.ensures.some)

pub returns-clause-values : goal.returns-clause-values
returns-clause-values g c =
    omega (
      arith,
      c.in_ok-stored.ensures,
      c.values.ensures.value,
      ap product c.with_rows-slab.ensures,
      product-with_rows c.min-rows.result c.args.h.now.shape c.dims-dims.ensures.shape.some_dimension,
    )

pub returns-clause-place : goal.returns-clause-place
returns-clause-place g c = c.in_ok-window.ensures.place ∙ c.from.ensures
