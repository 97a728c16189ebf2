-- What the laws of impls cite.
use Rattle.std.specs.Prelude.{ℕ, ◌≡◌, ◌≤◌, length}
use Rattle.std.proofs.Common.{sym}
use Rattle.zf_base.specs.declared.position.Pos.{Pos}
use Rattle.zf_base.specs.Positions.{used_axes, with_unused}
use Rattle.zf_base.proofs.Extents.{length-used_axes}
use Rattle.zf_window.specs.WindowFields.{AreUnused}

-- what is made of equal parts is equal
pub same_from_fields : {X : Type 0} (f : ℕ → Pos → Pos → Pos → X) (d : ℕ) (o s t : Pos) → d ≤ 4
    → AreUnused d o s t
    → f (length (used_axes d s)) (with_unused 0 (used_axes d o)) (with_unused 1 (used_axes d s))
    (with_unused 1 (used_axes d t)) ≡ f d o s t
same_from_fields f d o s t small unused =
    let dims : length (used_axes d s) ≡ d = length-used_axes d s small in
    let origin = sym unused.origins in
    let size = sym unused.sizes in
    let step = sym unused.steps in
    cc
