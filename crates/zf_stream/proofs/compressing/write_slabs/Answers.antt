use Rattle.std.{proofs.Common.{length, sym, ap, ◌∙◌, arith, rules}, proofs.lemmas.List.{length-take-le}}
use Rattle.std.{proofs.lemmas.Result.{err_from_is_err_and}, specs.Int.{byte_len}}
use Rattle.zf_pad.proofs.Slabs.{layout_of_slab, length-with_rows}
use Rattle.zf_dev.proofs.Devices.{Reads-more, Writes-more}
use Rattle.zf_stream.{proofs.OnErrors.{on_err}, proofs.Rooms.{Keeps-next, array_kept, room_part}}
use Rattle.zf_stream.proofs.Slabwise.{slab_next, slab_written, slab_broken, slab_refused, rows_len-add, no_rows, zero_rows}
use Rattle.zf_stream.proofs.Failing.{Reads-ok, Writes-ok}
use Rattle.zf_stream.proofs.compressing.write_slabs.Goals as goal

pub loop-row-init : goal.loop-row-init
loop-row-init g c = search (rules, no_rows, zero_rows)

pub slice_bounds-write_slab-end : goal.slice_bounds-write_slab-end
slice_bounds-write_slab-end g c =
    let slab = slab_next c.args.h.now c.loop-row.room.rows c.loop-row.row c.rows_of-all.result c.min-here.result c.values-count.result c.value_len.result c.with_rows.result c.dims-dims.ensures.shape c.loop-row.invariant.room.rows c.loop-row.invariant.done.whole c.rows_of-all.ensures c.loop-row-test.true c.min-here.ensures c.with_rows.ensures c.values-count.ensures.value (c.value_len.ensures.value ∙ ap byte_len c.requires.room.same_type) c.value_len.ensures.bound in
    omega (arith, slab.values, c.loop-row.invariant.room.values)

pub slice_bounds-write_slab-end-in-loop-row : goal.slice_bounds-write_slab-end-in-loop-row
slice_bounds-write_slab-end-in-loop-row g c =
    let slab = slab_next c.args.h.now c.loop-row.room.rows c.loop-row.row c.rows_of-all.result c.min-here.result c.values-count.result c.value_len.result c.with_rows.result c.dims-dims.ensures.shape c.loop-row.invariant.room.rows c.loop-row.invariant.done.whole c.rows_of-all.ensures c.loop-row-test.true c.min-here.ensures c.with_rows.ensures c.values-count.ensures.value (c.value_len.ensures.value ∙ ap byte_len c.requires.room.same_type) c.value_len.ensures.bound in
    sym (length-take-le _ c.loop-row.values (omega (arith, slab.values, c.loop-row.invariant.room.values)))

pub write_slab-requires-clause-values : goal.write_slab-requires-clause-values
write_slab-requires-clause-values g c =
    let slab = slab_next c.args.h.now c.loop-row.room.rows c.loop-row.row c.rows_of-all.result c.min-here.result c.values-count.result c.value_len.result c.with_rows.result c.dims-dims.ensures.shape c.loop-row.invariant.room.rows c.loop-row.invariant.done.whole c.rows_of-all.ensures c.loop-row-test.true c.min-here.ensures c.with_rows.ensures c.values-count.ensures.value (c.value_len.ensures.value ∙ ap byte_len c.requires.room.same_type) c.value_len.ensures.bound in
    length-take-le _ c.loop-row.values (omega (arith, slab.values, c.loop-row.invariant.room.values)) ∙ c.values-count.ensures.value

pub write_slab-requires-clause-room : goal.write_slab-requires-clause-room
write_slab-requires-clause-room g c = room_part c.with_rows.result (ap length c.with_rows.ensures ∙ length-with_rows c.min-here.result c.args.h.now.shape) c.loop-row.invariant.room.codes

pub write_slab-requires-clause-taken : goal.write_slab-requires-clause-taken
write_slab-requires-clause-taken g c =
    let slab = slab_next c.args.h.now c.loop-row.room.rows c.loop-row.row c.rows_of-all.result c.min-here.result c.values-count.result c.value_len.result c.with_rows.result c.dims-dims.ensures.shape c.loop-row.invariant.room.rows c.loop-row.invariant.done.whole c.rows_of-all.ensures c.loop-row-test.true c.min-here.ensures c.with_rows.ensures c.values-count.ensures.value (c.value_len.ensures.value ∙ ap byte_len c.requires.room.same_type) c.value_len.ensures.bound in
    omega (arith, slab.bytes_are, slab.bytes_len, c.loop-row.invariant.taken, rows_len-add c.args.h.now c.loop-row.row c.min-here.result, slab.small)

pub write_slab-requires-clause-raster : goal.write_slab-requires-clause-raster
write_slab-requires-clause-raster g c = search (rules, layout_of_slab)

pub overflow_add-taken : goal.overflow_add-taken
overflow_add-taken g c =
    let slab = slab_next c.args.h.now c.loop-row.room.rows c.loop-row.row c.rows_of-all.result c.min-here.result c.values-count.result c.value_len.result c.with_rows.result c.dims-dims.ensures.shape c.loop-row.invariant.room.rows c.loop-row.invariant.done.whole c.rows_of-all.ensures c.loop-row-test.true c.min-here.ensures c.with_rows.ensures c.values-count.ensures.value (c.value_len.ensures.value ∙ ap byte_len c.requires.room.same_type) c.value_len.ensures.bound in
    search (rules, rows_len-add)

pub returns-in_err-write_slab-clause-err : goal.returns-in_err-write_slab-clause-err
returns-in_err-write_slab-clause-err g c =
    let slab = slab_next c.args.h.now c.loop-row.room.rows c.loop-row.row c.rows_of-all.result c.min-here.result c.values-count.result c.value_len.result c.with_rows.result c.dims-dims.ensures.shape c.loop-row.invariant.room.rows c.loop-row.invariant.done.whole c.rows_of-all.ensures c.loop-row-test.true c.min-here.ensures c.with_rows.ensures c.values-count.ensures.value (c.value_len.ensures.value ∙ ap byte_len c.requires.room.same_type) c.value_len.ensures.bound in
    let done = c.loop-row.invariant.done in
    let broken = rw c.with_rows.ensures at c.in_err-write_slab.ensures.err in
    on_err c.from_residual.result _
    (slab_broken _ _ _ slab.next done.whole done c.loop-row.taken _ c.write_slab.ensures.gave_some broken)

pub returns-in_err-write_slab-clause-refused : goal.returns-in_err-write_slab-clause-refused
returns-in_err-write_slab-clause-refused g c =
    let slab = slab_next c.args.h.now c.loop-row.room.rows c.loop-row.row c.rows_of-all.result c.min-here.result c.values-count.result c.value_len.result c.with_rows.result c.dims-dims.ensures.shape c.loop-row.invariant.room.rows c.loop-row.invariant.done.whole c.rows_of-all.ensures c.loop-row-test.true c.min-here.ensures c.with_rows.ensures c.values-count.ensures.value (c.value_len.ensures.value ∙ ap byte_len c.requires.room.same_type) c.value_len.ensures.bound in
    let done = c.loop-row.invariant.done in
    let broken = rw c.with_rows.ensures at c.in_err-write_slab.ensures.err in
    let p = err_from_is_err_and c.from_residual.result c.from_residual.ensures.1 in
    rw (p.1, p.2) (slab_refused _ _ _ slab.next done.whole done _ _ c.loop-row.invariant.taken broken)

pub returns-in_err-write_slab-clause-keeps : goal.returns-in_err-write_slab-clause-keeps
returns-in_err-write_slab-clause-keeps g c = Keeps-next c.loop-row.invariant.keeps c.write_slab.ensures.keeps

pub returns-in_err-write_slab-clause-source : goal.returns-in_err-write_slab-clause-source
returns-in_err-write_slab-clause-source g c = search (rules, err_from_is_err_and)

pub returns-in_err-write_slab-clause-sink : goal.returns-in_err-write_slab-clause-sink
returns-in_err-write_slab-clause-sink g c = search (rules, err_from_is_err_and)

pub loop-row-preserved : goal.loop-row-preserved
loop-row-preserved g c =
    let slab = slab_next c.args.h.now c.loop-row.room.rows c.loop-row.row c.rows_of-all.result c.min-here.result c.values-count.result c.value_len.result c.with_rows.result c.dims-dims.ensures.shape c.loop-row.invariant.room.rows c.loop-row.invariant.done.whole c.rows_of-all.ensures c.loop-row-test.true c.min-here.ensures c.with_rows.ensures c.values-count.ensures.value (c.value_len.ensures.value ∙ ap byte_len c.requires.room.same_type) c.value_len.ensures.bound in
    let so_far = c.loop-row.invariant in
    let written = rw c.with_rows.ensures at c.in_ok-write_slab.ensures.ok in
    record {
      done = slab_written _ _ _ slab.next so_far.done.whole so_far.done written;
      taken = omega (arith, slab.bytes_len, so_far.taken, rows_len-add c.args.h.now c.loop-row.row c.min-here.result);
      few = c.in_ok-write_slab.ensures.few;
      room = array_kept so_far.room c.write_slab.ensures.keeps (search rules);
      keeps = Keeps-next so_far.keeps c.write_slab.ensures.keeps;
      source = Reads-more so_far.source c.write_slab.ensures.source;
      sink = Writes-more so_far.sink c.write_slab.ensures.sink;
    }

pub returns-clause-source : goal.returns-clause-source
returns-clause-source g c = Reads-ok tt c.loop-row.invariant.source

pub returns-clause-sink : goal.returns-clause-sink
returns-clause-sink g c = Writes-ok tt c.loop-row.invariant.sink
