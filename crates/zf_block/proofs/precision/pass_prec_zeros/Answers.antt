use Rattle.zf_block.proofs.ReadCodes.{ReadsPrec-planes}
use Rattle.zf_block.proofs.precision.pass_prec_zeros.Goals as goal

pub returns-clause-reads : goal.returns-clause-reads
returns-clause-reads g c =
    (c.pass_zeros.ensures.passes.0, λ seen. rw (c.pass_zeros.ensures.zeros seen) (ReadsPrec-planes g.T.Lane.width c.args.d.count c.args.prec c.args.reader.now c.pass_zeros.new.reader (c.pass_zeros.ensures.passes.1 seen)))
