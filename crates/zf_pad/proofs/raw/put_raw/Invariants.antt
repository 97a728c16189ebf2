-- The bytes of the values so far, which are values of the type.
use Rattle.std.{proofs.Common.{◌≡◌, ◌*◌, FitsSigned, All, map, take}, specs.Int.{byte_len}}
use Rattle.zf_spec.specs.Stream.{raw}
use Rattle.zf_pad.proofs.raw.put_raw.Given as goal

pub record Put (g : goal.Over) (l : goal.Live-loop-i g) : Type 0 where
  pub bytes : take (l.i * byte_len g.T.Lane.width) l.bytes ≡ raw g.T.Lane.width (map g.T.Lane.value (take l.i l.values))
  pub in_type : All (λ v. FitsSigned g.T.Lane.width v) (map g.T.Lane.value (take l.i l.values))

abbrev pub invariant-loop-i : goal.invariant-loop-i
invariant-loop-i g l = Put g l
