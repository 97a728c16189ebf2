-- Values as numbers of 128 bits.
use Rattle.std.proofs.Common.{◌≡◌, ◌⊎◌, ◌↔◌, ap, ◌∙◌, ℤ, FitsSigned, to_z, of_z, arith}
use Rattle.std.{specs.Int.{Width, w32, w64, w128}, proofs.lemmas.Int.{ints, to_z-of_z}}
use Rattle.zf_window.proofs.Bounds.{fits_long}

fits_wide : (z : ℤ) → FitsSigned w64 z → FitsSigned w128 z
fits_wide _ h = let k = h.sfits in record { sfits = omega (arith, ints) }

-- a value is the number of 128 bits that is made of it
pub wide : (w : Width) → (w ≡ w32) ⊎ (w ≡ w64) → (n z : ℤ) → n ≡ z → {P : Type 0} → P ↔ FitsSigned w z → P → to_z w128 (of_z w128 n) ≡ z
wide w two n z is same there = ap (λ m. to_z w128 (of_z w128 m)) is ∙ to_z-of_z w128 z (fits_wide z (fits_long w two z (same.0 there)))
