-- The call begins with its own source.
use Rattle.zf_stream.proofs.compressing.compress.Given as goal

abbrev pub ghosts-compress_as : goal.ghosts-compress_as
ghosts-compress_as g a = record { ends_seen = g.S.Source.ends_seen a.src.now }

abbrev pub ghosts-compress_as-2 : goal.ghosts-compress_as-2
ghosts-compress_as-2 g a = record { ends_seen = g.S.Source.ends_seen a.src.now }
