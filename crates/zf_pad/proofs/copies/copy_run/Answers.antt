use Rattle.std.proofs.Common.{◌≡◌, ⊎_elim, arith}
use Rattle.zf_pad.proofs.Copying.{run_none, run_more}
use Rattle.zf_pad.proofs.copies.copy_run.Goals as goal

pub returns-then-len-eq1 : goal.returns-then-len-eq1
returns-then-len-eq1 g c =
    run_more g.T.Lane.value _ _ _ 0 _ _ _ _ (omega arith) (omega arith) (omega arith) (omega arith)
    c.index-source-from.is _ _ (omega arith) (run_none _ _ _ _)

pub returns : goal.returns
returns g c =
    let f = g.T.Lane.value in
    let four : c.args.len ≡ 4 = ⊎_elim (λ one. absurd (c.if-len-eq1.false one)) (λ (e : c.args.len ≡ 4). e) c.requires.len in
    run_more f _ _ _ 3 _ _ _ _ (omega arith) (omega arith) (omega arith) (omega arith)
    c.index-source-from-5.is _ _ (omega arith)
    (run_more f _ _ _ 2 3 _ _ _ (omega arith) (omega arith) (omega arith) (omega arith)
    c.index-source-from-4.is _ _ (omega arith)
    (run_more f _ _ _ 1 2 _ _ _ (omega arith) (omega arith) (omega arith) (omega arith)
    c.index-source-from-3.is _ _ (omega arith)
    (run_more f _ _ _ 0 1 _ _ _ (omega arith) (omega arith) (omega arith) (omega arith)
    c.index-source-from-2.is _ _ (omega arith) (run_none _ _ _ _))))
