-- Where the first bytes are fewer than three words, the end was seen with them, once: that is not counted before.
use Rattle.std.proofs.Common.{◌-◌, min, length}
use Rattle.zf_stream.specs.Headed.{prefix_room}
use Rattle.zf_stream.proofs.restoring.restore.Given as goal

abbrev pub ghosts-restore_behind : goal.ghosts-restore_behind
ghosts-restore_behind g a = record { ends_seen = g.S.Source.ends_seen a.src.now - min 1 (prefix_room - length a.prefix.now) }
