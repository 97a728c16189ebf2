use Rattle.zf_script.proofs.Joined.{count_same}
use Rattle.zf_script.proofs.numbers.axes_in.Goals as goal

pub returns-then-count-dims-clause-none : goal.returns-then-count-dims-clause-none
returns-then-count-dims-clause-none c = λ ns ok is.
    let at = c.in_ok-count in
    c.if-count-dims.true (count_same c.args.dims c.args.byte c.args.unused c.args.word.now at.count at.numbers ns c.requires.no_digit c.requires.dimension.0 c.requires.dimension.1 at.ensures.sizes ok is)
