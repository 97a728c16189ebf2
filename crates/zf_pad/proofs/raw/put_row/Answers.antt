use Rattle.std.proofs.Common.{◌+◌, ◌≤◌, length, arith}
use Rattle.zf_pad.specs.Stored.{values_in}
use Rattle.zf_pad.proofs.{RawValues.{length-values_in}, Copying.{run_none, run_put}}
use Rattle.zf_pad.proofs.raw.put_row.Goals as goal

pub returns : goal.returns
returns g c =
    let f = g.T.Lane.value in
    let w = g.T.Lane.width in
    let there = c.requires.there in
    let room : c.args.to + 4 ≤ length (values_in w c.args.bytes.now) =
    omega (arith, length-values_in w c.args.bytes.now, c.requires.room) in
    run_put f _ _ _ 3 4 _ _ _ (omega arith) (omega arith) (omega arith) (omega arith)
    c.index-values-from-4.is _ _ _ (omega arith) c.put_value-4.ensures
    (run_put f _ _ _ 2 3 _ _ _ (omega arith) (omega arith) (omega arith) (omega arith)
    c.index-values-from-3.is _ _ _ (omega arith) c.put_value-3.ensures
    (run_put f _ _ _ 1 2 _ _ _ (omega arith) (omega arith) (omega arith) (omega arith)
    c.index-values-from-2.is _ _ _ (omega arith) c.put_value-2.ensures
    (run_put f _ _ _ 0 1 _ _ _ (omega arith) (omega arith) (omega arith) (omega arith)
    c.index-values-from.is _ _ _ (omega arith) c.put_value.ensures (run_none _ _ _ _))))
