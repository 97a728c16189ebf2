use Rattle.std.proofs.Common.{rules}
use Rattle.zf_dev.proofs.Devices.{Reads-none}
use Rattle.zf_stream.proofs.Failing.{ReadsOnly-ok}
use Rattle.zf_stream.proofs.window.Window.reach.Goals as goal

pub returns-else-left-need-clause-reaches : goal.returns-else-left-need-clause-reaches
returns-else-left-need-clause-reaches g c = record { ok = search rules; ended = c.requires.ended; drawn = tt; source = ReadsOnly-ok tt (Reads-none _) }
