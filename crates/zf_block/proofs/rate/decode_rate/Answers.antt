use Rattle.zf_block.{proofs.Answered.{when_some}, proofs.ReadCodes.{ReadsRate-planes}}
use Rattle.zf_block.proofs.rate.decode_rate.Goals as goal

pub returns : goal.returns
returns g c =
    let read = when_some c.decode.result c.unwrap.result c.unwrap.ensures c.decode.ensures.1 in
    rw (read.1, g.met.T.Lane.bits_of_width) (ReadsRate-planes g.T.Lane.width c.args.d.count c.args.bits c.args.reader.now c.decode.new.reader c.requires.enough read.0.passed)
