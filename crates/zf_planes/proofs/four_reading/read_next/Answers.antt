use Rattle.std.proofs.{lemmas.Option.{IfSome_then}}
use Rattle.zf_planes.{proofs.LastRank.{three_for_four}}
use Rattle.zf_planes.proofs.four_reading.read_next.Goals as goal

pub returns-else-n-lt3-clause-read : goal.returns-else-n-lt3-clause-read
returns-else-n-lt3-clause-read c = IfSome_then c.read_verbatim.result c.read_verbatim.ensures.read (λ some verbatim. record {
  some = verbatim.some;
  few = verbatim.few;
  read = record { fits = verbatim.read.fits; below = verbatim.read.below; comes = three_for_four c.if-n-lt3.false c.requires.in_plane verbatim.read.comes };
})
