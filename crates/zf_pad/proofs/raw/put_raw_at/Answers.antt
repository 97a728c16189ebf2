use Rattle.std.{proofs.Common.{◌/◌, ◌+◌, ◌<◌, length, ap, arith}, specs.Int.{byte_len}}
use Rattle.zf_pad.specs.Stored.{values_in}
use Rattle.zf_pad.proofs.{RawValues.{length-values_in}, Copying.{run_none, run_put}}
use Rattle.zf_pad.proofs.raw.put_raw_at.Goals as goal

pub put_value-requires : goal.put_value-requires
put_value-requires g c = record { room = omega (arith, ap (λ n. n / byte_len g.T.Lane.width) c.loop-k.auto.bytes, c.requires.room, c.loop-k-test.true) }

pub loop-k-init : goal.loop-k-init
loop-k-init g c = run_none _ _ _ _

pub loop-k-preserved : goal.loop-k-preserved
loop-k-preserved g c =
    let old = c.args.bytes.now in
    let room : c.args.to + c.loop-k.k < length (values_in g.T.Lane.width old) =
    omega (arith, length-values_in g.T.Lane.width old, c.requires.room, c.loop-k-test.true) in
    run_put g.T.Lane.value _ _ _ c.loop-k.k _ _ _ _ (omega arith) (omega arith) (omega arith)
    (omega (arith, c.requires.there, c.loop-k-test.true)) c.index-values-from.is _ _ _ room
    c.put_value.ensures c.loop-k.invariant
