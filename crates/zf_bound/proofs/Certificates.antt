-- What is certified is there once its parts are.
use Rattle.std.{proofs.Common.{◌≡◌, ℕ, Bool, List, length, rules}, specs.Prelude.{◌↔◌, IsTrue}}
use Rattle.std.proofs.lemmas.Bool.{ltb_from_iff}
use mir.Val.{bits}
use Rattle.zf_base.specs.Widths.{width_of}
use Rattle.zf_header.specs.declared.header.Header.{Header}
use Rattle.zf_bound.{specs.declared.certified.Certified.{Certified}, specs.Errors.{IsSmallEnough}}
use Rattle.zf_bound.specs.Bounds.{plane_of, error_of, certified_of}

made_same : (c : Certified) (k e : ℕ) (t : Bool) → c.plane ≡ k → c.error ≡ e → c.holds ≡ t → c ≡ record { plane = k; error = e; holds = t }
made_same c k e t f g h = λ i. record { plane = f i; error = g i; holds = h i }

pub certified_is : (h : Header) (cs : List (List Bool)) (m : ℕ) (c : Certified) → c.plane ≡ plane_of (width_of h.ty) (length h.shape) cs → c.error ≡ error_of (length h.shape) c.plane
    → (IsTrue c.holds ↔ IsSmallEnough (bits (width_of h.ty)) m c.error) → c ≡ certified_of h cs m
certified_is h cs m c plane error holds = search (rules, ltb_from_iff, made_same)
