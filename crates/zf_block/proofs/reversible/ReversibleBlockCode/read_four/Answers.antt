use Rattle.zf_block.proofs.ReadCodes.{held-behind_count, lacks-behind_count, lacks-count}
use Rattle.zf_block.proofs.reversible.ReversibleBlockCode.read_four.Goals as goal

pub returns-in_err-prec : goal.returns-in_err-prec
returns-in_err-prec g c = rw c.from_residual.ensures (lacks-count g.T.Lane.width 4 c.args.reader.now c.read_count.new.reader c.in_err-prec.ensures.none, tt)

pub returns-in-Some : goal.returns-in-Some
returns-in-Some g c =
    let count = c.in_ok-prec.ensures in
    let held = held-behind_count g.T.Lane.width 4 c.in_ok-prec.prec c.args.reader.now c.read_count.new.reader count.value count.reads in
    (tt, held c.read_uncut_four.new.reader _ c.in-Some.ensures.1)

pub returns-in-None : goal.returns-in-None
returns-in-None g c =
    let count = c.in_ok-prec.ensures in
    let behind = c.in-None.ensures.0 in
    (lacks-behind_count g.T.Lane.width 4 c.in_ok-prec.prec c.args.reader.now c.read_count.new.reader count.value count.reads c.read_uncut_four.new.reader c.seek.new.self c.at-start.result behind c.seek.ensures c.at-start.ensures, tt)
