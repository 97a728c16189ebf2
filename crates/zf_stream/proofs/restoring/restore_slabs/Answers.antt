use Rattle.std.proofs.Common.{rules, ◌≡◌, ℕ, ◌+◌, ◌-◌, ◌*◌, ◌/◌, ◌<◌, ◌≤◌, List, map, length, min, mul_comm, ap, ◌∙◌, arith}
use Rattle.std.{proofs.lemmas.Result.{err_from_is_err_and}, proofs.Math.Nat.{mul-le-mul_left, mul-add}}
use Rattle.zf_spec.specs.Grid.{product, grid, blocks}
use Rattle.zf_pad.specs.Slabs.{rows_of, row_len, with_rows, IsSlab, first_block}
use Rattle.zf_pad.proofs.Stored.{length-raster_of}
use Rattle.zf_pad.proofs.Slabs.{length-with_rows, product-with_rows, blocks-with_rows}
use Rattle.zf_header.specs.declared.header.Header.{Header}
use Rattle.zf_stream.{specs.Rows.{ArePieces}, proofs.OnErrors.{on_err}, proofs.Failing.{Reads-ok, Writes-ok}}
use Rattle.zf_stream.proofs.Restored.{blocks_behind, slab_restored, slab_spilled, slab_cut, slab_lacked, Restores-none}
use Rattle.zf_stream.proofs.Slabwise.{with_shape, IsNext, next_here, next_whole}
use Rattle.zf_stream.proofs.Rooms.{Stays-none, Stays-next, still_restores_all, restores_part}
use Rattle.zf_dev.proofs.Devices.{Reads-none, Reads-more, Writes-none, Writes-more}
use Rattle.zf_stream.proofs.restoring.restore_slabs.Goals as goal

-- the slab that comes next, of which so many rows are there
record Slab (h : Header) (rows row here first : ℕ) (shape : List ℕ) : Type 0 where
  next : IsNext h row here
  number : first ≡ first_block h.shape (row / 4)
  count : product shape ≡ row_len h.shape * here
  within : product shape ≤ row_len h.shape * rows
  behind : first + blocks shape ≡ first_block h.shape ((row + here + 3) / 4)
  fits : first + blocks shape ≤ blocks h.shape

slab_here : (h : Header) (rows row all here first : ℕ) (shape : List ℕ) → ArePieces h.shape rows → IsSlab h.shape 0 row → all ≡ rows_of h.shape → row < all → here ≡ min rows (all - row) → shape ≡ with_rows here h.shape
    → first ≡ first_block h.shape ((row + 3) / 4) → Slab h rows row here first shape
slab_here h rows row all here first shape pieces whole all_is more here_is shape_is first_is =
    let ns = h.shape in
    let next = next_here h rows row all here pieces whole all_is more here_is in
    let c = row / 4 in
    let down : (row + 3) / 4 ≡ c = omega (arith, next.first) in
    let rounded : (row + here + 3) / 4 ≡ c + (here + 3) / 4 = omega (arith, next.first) in
    let number : first ≡ first_block ns c = first_is ∙ ap (first_block ns) down in
    let many : blocks shape ≡ first_block ns ((here + 3) / 4) = ap blocks shape_is ∙ blocks-with_rows here ns whole.some_axis in
    let behind : first + blocks shape ≡ first_block ns ((row + here + 3) / 4) = omega (arith, number, many, ap (first_block ns) rounded, mul-add (row_len (grid ns)) c ((here + 3) / 4)) in
    let upto_here = next_whole h row here next whole in
    let rest = blocks_behind ns (row + here) upto_here in
    let few : here ≤ rows = omega (arith, here_is) in
    let count : product shape ≡ row_len ns * here = ap product shape_is ∙ product-with_rows here ns whole.some_axis in search (rules, mul-le-mul_left)

pub loop-row-init : goal.loop-row-init
loop-row-init g c = record {
  done = Restores-none c.args.h.now _ _ c.args.room.now.window c.dims-dims.ensures.shape.some_dimension;
  first = omega (arith, mul_comm (row_len (grid c.args.h.now.shape)) 0);
  room = c.requires.room;
  stays = Stays-none _;
  source = Reads-none _;
  sink = Writes-none _;
}

pub read_slab-requires-clause-room : goal.read_slab-requires-clause-room
read_slab-requires-clause-room g c =
    let slab = slab_here c.args.h.now c.loop-row.room.rows c.loop-row.row c.rows_of-all.result c.min-here.result c.loop-row.first c.with_rows.result c.loop-row.invariant.room.rows c.loop-row.invariant.done.whole c.rows_of-all.ensures c.loop-row-test.true c.min-here.ensures c.with_rows.ensures c.loop-row.invariant.first in
    restores_part c.with_rows.result _ (ap length c.with_rows.ensures ∙ length-with_rows c.min-here.result c.args.h.now.shape) slab.within c.loop-row.invariant.room.codes

pub read_slab-requires-clause-numbers : goal.read_slab-requires-clause-numbers
read_slab-requires-clause-numbers g c =
    let slab = slab_here c.args.h.now c.loop-row.room.rows c.loop-row.row c.rows_of-all.result c.min-here.result c.loop-row.first c.with_rows.result c.loop-row.invariant.room.rows c.loop-row.invariant.done.whole c.rows_of-all.ensures c.loop-row-test.true c.min-here.ensures c.with_rows.ensures c.loop-row.invariant.first in
    omega (arith, slab.fits, c.blocks-blocks.ensures.value, c.blocks-blocks.ensures.bound)

pub returns-in_err-read_slab-clause-err : goal.returns-in_err-read_slab-clause-err
returns-in_err-read_slab-clause-err g c =
    on_err c.from_residual.result _ (slab_lacked c.args.h.now c.loop-row.row c.loop-row.invariant.done (with_shape c.args.h.now c.with_rows.result) c.loop-row.first c.in_err-read_slab.field-0.0 c.in_err-read_slab.ensures.err)

pub returns-in_err-read_slab-clause-refused : goal.returns-in_err-read_slab-clause-refused
returns-in_err-read_slab-clause-refused g c =
    let slab = slab_here c.args.h.now c.loop-row.room.rows c.loop-row.row c.rows_of-all.result c.min-here.result c.loop-row.first c.with_rows.result c.loop-row.invariant.room.rows c.loop-row.invariant.done.whole c.rows_of-all.ensures c.loop-row-test.true c.min-here.ensures c.with_rows.ensures c.loop-row.invariant.first in
    let p = err_from_is_err_and c.from_residual.result c.from_residual.ensures.1 in
    let lacks = rw c.with_rows.ensures at c.in_err-read_slab.ensures.err in
    rw (p.1, p.2) (slab_cut _ _ _ slab.next c.loop-row.invariant.done _ _ _ slab.number lacks)

pub returns-in_err-write_stored-clause-err : goal.returns-in_err-write_stored-clause-err
returns-in_err-write_stored-clause-err g c =
    let slab = slab_here c.args.h.now c.loop-row.room.rows c.loop-row.row c.rows_of-all.result c.min-here.result c.loop-row.first c.with_rows.result c.loop-row.invariant.room.rows c.loop-row.invariant.done.whole c.rows_of-all.ensures c.loop-row-test.true c.min-here.ensures c.with_rows.ensures c.loop-row.invariant.first in
    let stored = map g.T.Lane.value c.read_slab.new.room.stored.items in
    let long = length-raster_of c.with_rows.result stored ∙ slab.count in
    let read = rw c.with_rows.ensures at c.in_ok-read_slab.ensures.ok in
    let written = rw (c.values.ensures, c.requires.room.same_type) at c.in_err-write_stored.ensures.err in
    let here = rw c.with_rows.ensures at written in
    let size = rw c.with_rows.ensures at long in
    on_err c.from_residual-in_err-write_stored.result _
    (slab_spilled _ _ _ slab.next c.loop-row.invariant.done _ read size here)

pub overflow_add-first : goal.overflow_add-first
overflow_add-first g c =
    let slab = slab_here c.args.h.now c.loop-row.room.rows c.loop-row.row c.rows_of-all.result c.min-here.result c.loop-row.first c.with_rows.result c.loop-row.invariant.room.rows c.loop-row.invariant.done.whole c.rows_of-all.ensures c.loop-row-test.true c.min-here.ensures c.with_rows.ensures c.loop-row.invariant.first in
    search rules

pub loop-row-preserved : goal.loop-row-preserved
loop-row-preserved g c =
    let slab = slab_here c.args.h.now c.loop-row.room.rows c.loop-row.row c.rows_of-all.result c.min-here.result c.loop-row.first c.with_rows.result c.loop-row.invariant.room.rows c.loop-row.invariant.done.whole c.rows_of-all.ensures c.loop-row-test.true c.min-here.ensures c.with_rows.ensures c.loop-row.invariant.first in
    let stored = map g.T.Lane.value c.read_slab.new.room.stored.items in
    let long = length-raster_of c.with_rows.result stored ∙ slab.count in
    let read = rw c.with_rows.ensures at c.in_ok-read_slab.ensures.ok in
    let written = rw (c.values.ensures, c.requires.room.same_type) at c.in_ok-write_stored.ensures.ok in
    let here = rw c.with_rows.ensures at written in
    let size = rw c.with_rows.ensures at long in
    record {
      done = slab_restored _ _ _ slab.next c.loop-row.invariant.done _ read size here;
      first = omega (arith, slab.behind, c.blocks-first.ensures.value);
      room = still_restores_all c.loop-row.invariant.room (search rules) c.in_ok-read_slab.ensures.ended;
      stays = Stays-next c.loop-row.invariant.stays (search rules);
      source = Reads-more c.loop-row.invariant.source c.read_slab.ensures.source;
      sink = Writes-more c.loop-row.invariant.sink c.write_stored.ensures.sink.device;
    }

pub returns-in_err-read_slab-clause-source : goal.returns-in_err-read_slab-clause-source
returns-in_err-read_slab-clause-source g c = search (rules, err_from_is_err_and)

pub returns-in_err-write_stored-clause-sink : goal.returns-in_err-write_stored-clause-sink
returns-in_err-write_stored-clause-sink g c = search (rules, err_from_is_err_and)

pub returns-clause-source : goal.returns-clause-source
returns-clause-source g c = Reads-ok tt c.loop-row.invariant.source

pub returns-clause-sink : goal.returns-clause-sink
returns-clause-sink g c = Writes-ok tt c.loop-row.invariant.sink
