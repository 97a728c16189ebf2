use Rattle.std.proofs.Common.{rules, ◌≡◌, ℕ, ◌*◌, ◌<◌, ◌≤◌, ◌^◌, List, ◌++◌, length, arith}
use Rattle.std.{proofs.lemmas.List.Elements.{All-from_get_or}, proofs.lemmas.Grind.{flat_map-append}}
use Rattle.std.{specs.Int.{w64, to_le_bytes}, proofs.lemmas.Result.{err_from_is_err_and}}
use Rattle.zf_stream.{proofs.Piecewise.{piece_is, part_written, part_failed}, specs.Flows.{bytes_in}}
use Rattle.zf_stream.{proofs.OnErrors.{on_err}, proofs.Failing.{WritesOnly-ok}}
use Rattle.zf_dev.proofs.Devices.{Writes-more}
use Rattle.zf_stream.proofs.writing.write_words.Goals as goal

joined : (xs ys : List ℕ) → bytes_in (xs ++ ys) ≡ bytes_in xs ++ bytes_in ys
joined = flat_map-append (to_le_bytes w64)

pub returns-in_err-write_bytes-clause-err : goal.returns-in_err-write_bytes-clause-err
returns-in_err-write_bytes-clause-err g c =
    let fits : 8 * c.min-n.result ≤ length c.loop-at.piece = omega (arith, c.min-n.ensures, c.loop-at.auto.piece) in
    let same = piece_is bytes_in joined _ c.loop-at.at _ _ c.loop-at.piece _ c.put_bytes.ensures c.put_bytes.auto.bytes fits in
    let failed = rw same at c.in_err-write_bytes.ensures.err in
    on_err c.from_residual.result _ (part_failed bytes_in joined _ _ _ _ _ _ c.loop-at.invariant.written failed)

pub loop-at-preserved : goal.loop-at-preserved
loop-at-preserved g c =
    let fits : 8 * c.min-n.result ≤ length c.loop-at.piece = omega (arith, c.min-n.ensures, c.loop-at.auto.piece) in
    let same = piece_is bytes_in joined _ c.loop-at.at _ _ c.loop-at.piece _ c.put_bytes.ensures c.put_bytes.auto.bytes fits in
    let written = rw same at c.in_ok-write_bytes.ensures.ok in
    record {
      within = omega (arith, c.loop-at-test.true, c.min-n.ensures);
      written = part_written bytes_in joined _ _ _ _ _ _ c.loop-at.invariant.written written;
      sink = Writes-more c.loop-at.invariant.sink c.write_bytes.ensures.sink.device;
    }

pub returns-in_err-write_bytes-clause-words : goal.returns-in_err-write_bytes-clause-words
returns-in_err-write_bytes-clause-words g c = All-from_get_or (λ v. v < 2 ^ 64) c.args.words.now 0 (λ i within. (c.type_inv.words i).fits)

pub returns-clause-words : goal.returns-clause-words
returns-clause-words g c = All-from_get_or (λ v. v < 2 ^ 64) c.args.words.now 0 (λ i within. (c.type_inv.words i).fits)

pub returns-in_err-write_bytes-clause-sink : goal.returns-in_err-write_bytes-clause-sink
returns-in_err-write_bytes-clause-sink g c = search (rules, err_from_is_err_and)

pub returns-clause-sink : goal.returns-clause-sink
returns-clause-sink g c = WritesOnly-ok tt c.loop-at.invariant.sink
