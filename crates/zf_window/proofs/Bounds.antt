-- Numbers between two bounds, and the widths that they fit.
use Rattle.std.proofs.Common.{◌≡◌, ◌⊎◌, inl, inr, ◌↔◌, subst, ◌^◌, ℤ, pos, negsuc, FitsSigned, arith, rules}
use Rattle.std.{specs.Int.{Width, w32, w64, w128}, proofs.lemmas.Int.{ints}}
use Rattle.zf_window.specs.Bounds.{IsUpTo}

-- a value is one of at most 64 bits
pub fits_long : (w : Width) → (w ≡ w32) ⊎ (w ≡ w64) → (z : ℤ) → FitsSigned w z → FitsSigned w64 z
fits_long w (inl e) (pos n) h = let f : FitsSigned w32 (pos n) = subst (λ u. FitsSigned u (pos n)) e h in let k = f.sfits in record { sfits = omega (arith, ints) }
fits_long w (inl e) (negsuc n) h = let f : FitsSigned w32 (negsuc n) = subst (λ u. FitsSigned u (negsuc n)) e h in let k = f.sfits in record { sfits = omega (arith, ints) }
fits_long w (inr e) z h = subst (λ u. FitsSigned u z) e h

up_to : (z : ℤ) → FitsSigned w64 z → IsUpTo (2 ^ 63) z
up_to _ h = let k = h.sfits in (omega (arith, ints), omega (arith, ints))

pub value_up_to : (w : Width) → (w ≡ w32) ⊎ (w ≡ w64) → (z : ℤ) → {P : Type 0} → P ↔ FitsSigned w z → P → IsUpTo (2 ^ 63) z
value_up_to w two z same there = up_to z (fits_long w two z (same.0 there))

-- a sum of some of them fits 128 bits
pub up_to_fits : (s : ℤ) → IsUpTo (2 ^ 100) s → FitsSigned w128 s
up_to_fits _ h = search rules
