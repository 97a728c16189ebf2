use Rattle.std.proofs.Common.{refl}
use Rattle.zf_spec.proofs.tables.plane_codes.Goals as goal

pub returns : goal.returns
returns c = record { none = (refl, refl); first = (refl, refl); third = (refl, refl); last = (refl, refl); both = (refl, refl) }
