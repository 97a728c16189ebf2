-- The call begins with its own source.
use Rattle.zf_narrow.proofs.compressing.compress_narrow.Given as goal

abbrev pub ghosts-compress_begun-K-Begun : goal.ghosts-compress_begun-K-Begun
ghosts-compress_begun-K-Begun g a = record { narrow = a.n; start = g.S.Source.contents a.src.now; gave = g.S.Source.gave a.src.now }

abbrev pub ghosts-compress_begun-E-Begun : goal.ghosts-compress_begun-E-Begun
ghosts-compress_begun-E-Begun g a = record { ends_seen = g.S.Source.ends_seen a.src.now }
