use Rattle.std.proofs.Common.{rules, min, ◌≡◌, ℕ, ◌*◌, ◌/◌, ◌≤◌, ℤ, List, ◌++◌, map, ap, ◌∙◌, arith}
use Rattle.std.{proofs.lemmas.Grind.{common_steps}, proofs.lemmas.List.{map-append}, specs.Int.{Width}}
use Rattle.std.proofs.Math.Nat.{div-mul-le_self, mul-le-mul_right}
use Rattle.std.proofs.lemmas.Result.{err_from_is_err_and}
use Rattle.zf_spec.specs.Stream.{raw}
use Rattle.zf_stream.{proofs.Piecewise.{piece_is, part_written, part_failed}, proofs.OnErrors.{on_err}}
use Rattle.zf_stream.{proofs.RawValues.{raw-append}, proofs.Failing.{WritesOnly-ok}}
use Rattle.zf_dev.proofs.Devices.{Writes-more}
use Rattle.zf_stream.proofs.writing.write_values.Goals as goal

-- so many values fit into a piece
fits_piece : (n most len all room : ℕ) → n ≡ min most (all / len) → room ≡ all → n * len ≤ room
fits_piece n most len all room is same = search (rules, mul-le-mul_right, div-mul-le_self)

-- raw bytes of values, joined
joined : {X : Type 0} (w : Width) (value : X → ℤ) (xs ys : List X) → raw w (map value (xs ++ ys)) ≡ raw w (map value xs) ++ raw w (map value ys)
joined w value xs ys = ap (raw w) (map-append value xs ys) ∙ raw-append w (map value xs) (map value ys)

pub returns-in_err-write_bytes-clause-err : goal.returns-in_err-write_bytes-clause-err
returns-in_err-write_bytes-clause-err g c =
    let len = c.value_len-len.result in
    let bytes = λ (vs : List g.row.T.Denot). raw g.T.Lane.width (map g.T.Lane.value vs) in
    let both = joined g.T.Lane.width g.T.Lane.value in
    let fits = fits_piece _ _ len _ _ c.min-n.ensures c.loop-at.auto.piece in
    let same = piece_is bytes both _ c.loop-at.at _ _ c.loop-at.piece _ c.put_raw.ensures.bytes c.put_raw.auto.bytes fits in
    let failed = rw same at c.in_err-write_bytes.ensures.err in
    on_err c.from_residual.result _ (part_failed bytes both _ _ _ _ _ _ c.loop-at.invariant.written failed)

pub loop-at-preserved : goal.loop-at-preserved
loop-at-preserved g c =
    let len = c.value_len-len.result in
    let bytes = λ (vs : List g.row.T.Denot). raw g.T.Lane.width (map g.T.Lane.value vs) in
    let both = joined g.T.Lane.width g.T.Lane.value in
    let fits = fits_piece _ _ len _ _ c.min-n.ensures c.loop-at.auto.piece in
    let same = piece_is bytes both _ c.loop-at.at _ _ c.loop-at.piece _ c.put_raw.ensures.bytes c.put_raw.auto.bytes fits in
    let written = rw same at c.in_ok-write_bytes.ensures.ok in
    record {
      within = omega (arith, c.loop-at-test.true, c.min-n.ensures);
      written = part_written bytes both _ _ _ _ _ _ c.loop-at.invariant.written written;
      sink = Writes-more c.loop-at.invariant.sink c.write_bytes.ensures.sink.device;
    }

pub returns-in_err-write_bytes-clause-sink : goal.returns-in_err-write_bytes-clause-sink
returns-in_err-write_bytes-clause-sink g c = search (rules, err_from_is_err_and)

pub returns-clause-sink : goal.returns-clause-sink
returns-clause-sink g c = WritesOnly-ok tt c.loop-at.invariant.sink

pub returns-clause-ok : goal.returns-clause-ok
returns-clause-ok g c = grind (arith, common_steps)
