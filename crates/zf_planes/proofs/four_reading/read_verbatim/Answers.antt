use Rattle.std.proofs.Common.{refl, arith}
use Rattle.zf_planes.{specs.Fours.{string_planes}}
use Rattle.zf_planes.proofs.LanesAhead.{word_read}
use Rattle.zf_planes.proofs.four_reading.read_verbatim.Goals as goal

pub returns-then-most-lt4-clause-read : goal.returns-then-most-lt4-clause-read
unfolding string_planes
returns-then-most-lt4-clause-read c =
    let read = c.in_ok-digits in
    word_read c.args.most read.digits _ (omega arith) (omega arith) c.requires.some refl refl c.min-len.ensures read.ensures.digits (omega arith) c.lanes_of_4.ensures.digits c.lanes_of_4.ensures.below read.ensures.taken

pub returns-clause-read : goal.returns-clause-read
returns-clause-read c =
    let read = c.in_ok-digits-2 in
    word_read c.args.most read.digits _ (omega arith) (omega arith) c.if-most-lt4.false refl refl c.min-len-2.ensures read.ensures.digits (omega arith) c.lanes_of_16.ensures.digits c.lanes_of_16.ensures.below read.ensures.taken
