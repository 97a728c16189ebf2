use Rattle.std.proofs.Common.{refl}
use Rattle.zf_run.proofs.arrays.WholeTarget.use_window.Goals as goal

pub returns : goal.returns
returns g c = record { does = refl; sound = c.requires.sound; kept = refl }
