use Rattle.std.proofs.lemmas.Option.{IfSome_then}
use Rattle.zf_planes.proofs.Passing.{on_none}
use Rattle.zf_block.proofs.ReadCodes.{ReadsPrec-planes, LacksPrec-short}
use Rattle.zf_block.proofs.precision.decode_prec.Goals as goal

pub returns-clause-short : goal.returns-clause-short
returns-clause-short g c = on_none c.decode.result c.decode.ensures.0 (LacksPrec-short g.T.Lane.width c.args.d.count c.args.prec c.args.reader.now c.decode.new.reader)

pub returns-clause-unread : goal.returns-clause-unread
returns-clause-unread g c = on_none c.decode.result c.decode.ensures.0 (λ lacks. lacks.unread)

pub returns-clause-reads : goal.returns-clause-reads
returns-clause-reads g c =
    IfSome_then c.decode.result c.decode.ensures.1 (λ x read. rw read.1 (ReadsPrec-planes g.T.Lane.width c.args.d.count c.args.prec c.args.reader.now c.decode.new.reader read.0))
