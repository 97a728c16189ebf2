-- The call begins with its own sink.
use Rattle.zf_narrow.proofs.restoring.restore_narrow.Given as goal

abbrev pub ghosts-restore_begun : goal.ghosts-restore_begun
ghosts-restore_begun g a = record { narrow = a.n; start = g.O.Sink.contents a.out.now; gave = λ bytes. Unit {0} }
