use Rattle.std.{proofs.Common.{rules, ◌≡◌, ap, ◌∙◌, ◌*◌, ℕ, ◌≤◌, ℤ, List, map, length, take, subst}, specs.Int.{Width}}
use Rattle.std.{proofs.lemmas.List.{take_all, take-map, length-map}, specs.Prelude.{OnOk, OnErr}}
use Rattle.std.proofs.lemmas.Result.{err_from_is_err_and}
use Rattle.zf_spec.{specs.Grid.{product}, specs.Stream.{raw}}
use Rattle.zf_pad.{specs.Stored.{raster_of}, proofs.Stored.{length-raster_of, raster_of_one}}
use Rattle.zf_dev.{specs.Sink.{Appends, AppendsPrefix}, proofs.Devices.{Writes-more}}
use Rattle.zf_stream.{proofs.OnErrors.{on_err}, proofs.RawValues.{raw-append}, proofs.Failing.{WritesOnly-ok}}
use Rattle.zf_stream.proofs.Piecewise.{part_written, part_failed}
use Rattle.zf_stream.proofs.writing.write_stored.Goals as goal

-- so many values' bytes, by the number of bytes that a value is said to have
raw_bytes_of : (count n m : ℕ) (piece bytes : List ℕ) → n ≡ m → take (count * m) piece ≡ bytes → take (count * n) piece ≡ bytes
raw_bytes_of count n m piece bytes same are = ap (λ k. take (count * k) piece) same ∙ are

pub returns-in_err-write_bytes-clause-err : goal.returns-in_err-write_bytes-clause-err
returns-in_err-write_bytes-clause-err g c =
    let w = g.T.Lane.width in
    let bytes = raw_bytes_of _ _ _ _ _ c.value_len-len.ensures.value c.copy_lines-count.ensures.values in
    let failed = rw bytes at c.in_err-write_bytes.ensures.err in
    on_err c.from_residual.result _
    (part_failed (raw w) (raw-append w) _ _ _ _ _ _ c.loop-at.invariant.written failed)

pub loop-at-preserved : goal.loop-at-preserved
loop-at-preserved g c =
    let w = g.T.Lane.width in
    let bytes = raw_bytes_of _ _ _ _ _ c.value_len-len.ensures.value c.copy_lines-count.ensures.values in
    let written = rw bytes at c.in_ok-write_bytes.ensures.ok in
    record {
      within = c.copy_lines-count.ensures.within;
      first = c.copy_lines-count.ensures.first;
      written = part_written (raw w) (raw-append w) _ _ _ _ _ _ c.loop-at.invariant.written written;
      sink = Writes-more c.loop-at.invariant.sink c.write_bytes.ensures.sink.device;
    }

pub returns-clause-ok : goal.returns-clause-ok
returns-clause-ok g c = search (rules, length-raster_of, take_all)

-- in one dimension they stand in raster order
in_order : {X : Type 0} (w : Width) (value : X → ℤ) (ns : List ℕ) (stored : List X) (dims all : ℕ) → dims ≡ length ns → dims ≡ 1 → all ≡ product ns → product ns ≤ length stored
    → raw w (map value (take all stored)) ≡ raw w (raster_of ns (map value stored))
in_order w value ns stored dims all is one all_is within = search (rules, take-map, raster_of_one, length-map)

pub returns-then-dims-eq1-clause-ok : goal.returns-then-dims-eq1-clause-ok
returns-then-dims-eq1-clause-ok g c =
    let P : List ℕ → Type 0 = λ bs. OnOk c.write_values.result (Appends (g.O.Sink.contents c.args.out.now) (g.O.Sink.contents c.write_values.new.out) bs) in
    subst P (in_order g.T.Lane.width g.T.Lane.value c.args.shape.now c.args.stored.now c.dims.result c.values-all.result c.dims.ensures.value c.if-dims-eq1.true c.values-all.ensures.value c.requires.all)
    c.write_values.ensures.ok

pub returns-then-dims-eq1-clause-err : goal.returns-then-dims-eq1-clause-err
returns-then-dims-eq1-clause-err g c =
    let P : List ℕ → Type 0 = λ bs. OnErr c.write_values.result (AppendsPrefix (g.O.Sink.contents c.args.out.now) (g.O.Sink.contents c.write_values.new.out) bs) in
    subst P (in_order g.T.Lane.width g.T.Lane.value c.args.shape.now c.args.stored.now c.dims.result c.values-all.result c.dims.ensures.value c.if-dims-eq1.true c.values-all.ensures.value c.requires.all)
    c.write_values.ensures.err

pub returns-in_err-write_bytes-clause-sink : goal.returns-in_err-write_bytes-clause-sink
returns-in_err-write_bytes-clause-sink g c = search (rules, err_from_is_err_and)

pub returns-clause-sink : goal.returns-clause-sink
returns-clause-sink g c = WritesOnly-ok tt c.loop-at.invariant.sink
