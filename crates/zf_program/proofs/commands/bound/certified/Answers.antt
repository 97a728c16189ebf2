use Rattle.std.{proofs.Common.{ap, sym}, specs.Int.{w32, w64}}
use Rattle.zf_base.specs.Widths.{width_of}
use Rattle.zf_parse.specs.Parsing.{parse}
use Rattle.zf_program.proofs.Certifying.{certified_all}
use Rattle.zf_program.proofs.commands.bound.certified.Goals as goal

pub returns-in-I32-clause-certified : goal.returns-in-I32-clause-certified
returns-in-I32-clause-certified c =
    certified_all w32 c.args.header.now c.args.most c.bound.result (parse c.args.file.now) (sym (ap width_of c.in-I32.is)) c.bound.ensures.plane c.bound.ensures.error c.bound.ensures.holds

pub returns-in-I64-clause-certified : goal.returns-in-I64-clause-certified
returns-in-I64-clause-certified c =
    certified_all w64 c.args.header.now c.args.most c.bound-in-I64.result (parse c.args.file.now) (sym (ap width_of c.in-I64.is)) c.bound-in-I64.ensures.plane c.bound-in-I64.ensures.error c.bound-in-I64.ensures.holds
