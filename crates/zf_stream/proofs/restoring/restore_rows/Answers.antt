use Rattle.std.proofs.Common.{arith, rules}
use Rattle.zf_pad.specs.Slabs.{rows_of}
use Rattle.zf_stream.{proofs.OnErrors.{on_err}, proofs.Restored.{rows_left}}
use Rattle.zf_stream.proofs.RestoredAll.{on_ok_of, if_err_of, restores_all, has_fault, all_left}
use Rattle.zf_stream.proofs.restoring.restore_rows.Goals as goal

pub returns-in_err-reach-clause-err : goal.returns-in_err-reach-clause-err
returns-in_err-reach-clause-err g c =
    on_err c.from_residual-in_err-reach.result _ (rows_left c.args.h.now (rows_of c.args.h.now.shape) c.in_ok-restore_slabs.ensures.ok c.in_err-reach.ensures.reaches.drawn)

pub returns-clause-ok : goal.returns-clause-ok
returns-clause-ok g c = search (rules, on_ok_of, restores_all)

pub returns-clause-err : goal.returns-clause-err
returns-clause-err g c =
    on_err c.check_fill.result _ (all_left c.args.h.now c.in_ok-restore_slabs.ensures.ok c.in_ok-reach.ensures.reaches.ok c.in_ok-reach.ensures.reaches.ended c.in_ok-reach.ensures.enough)

pub returns-clause-refused : goal.returns-clause-refused
returns-clause-refused g c = grind (arith, if_err_of, has_fault)
