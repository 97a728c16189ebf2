use Rattle.zf_program.{specs.Statuses.{error_line}, proofs.HandedOn.{flushed_quiet, Sends-stays}}
use Rattle.zf_program.proofs.program.report.Goals as goal

pub returns-clause-message : goal.returns-clause-message
returns-clause-message g c = Sends-stays (error_line c.args.status.now) _ _ _ _ _ _ c.tell.ensures c.flush.ensures.stays c.flush.ensures.cause.0

pub returns-clause-sent : goal.returns-clause-sent
returns-clause-sent g c = flushed_quiet c.flush.result _ _ _ c.flush.ensures.cause c.flush.ensures.flushed c.tell.ensures.kept
