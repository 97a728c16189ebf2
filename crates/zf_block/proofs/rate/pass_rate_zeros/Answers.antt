use Rattle.zf_block.proofs.ReadCodes.{ReadsRate-planes}
use Rattle.zf_block.proofs.rate.pass_rate_zeros.Goals as goal

pub returns-clause-there : goal.returns-clause-there
returns-clause-there g c = λ seen. (c.pass_zeros.ensures.passes.1 seen).whole

pub returns-clause-reads : goal.returns-clause-reads
returns-clause-reads g c = (
  c.pass_zeros.ensures.passes.0,
  λ seen.
      let passes = c.pass_zeros.ensures.passes.1 seen in
      rw (c.pass_zeros.ensures.zeros seen, g.met.T.Lane.bits_of_width) (ReadsRate-planes g.T.Lane.width c.args.d.count c.args.bits c.args.reader.now c.pass_zeros.new.reader passes.whole passes.passed),
)
