-- What the laws of impls cite.
use Rattle.std.specs.Prelude.{ℕ, ◌≡◌, ◌^◌, ◌↔◌, ℤ, pos, negsuc, neg_ℤ, ◌≤ℤ◌, ◌<ℤ◌, FitsSigned}
use Rattle.std.specs.Int.{Width}
use mir.Val.{hbits}
use Rattle.std.proofs.Common.{arith}
use Rattle.std.proofs.lemmas.Int.{ints}
use Rattle.zf_base.specs.declared.position.Pos.{Pos}

-- the numbers that fit a signed type lie between its ends
pub FitsSigned-bounds : (w : Width) (n : ℤ) → FitsSigned w n
    ↔ ((neg_ℤ (pos (2 ^ hbits w)) ≤ℤ n) × (n <ℤ pos (2 ^ hbits w)))
FitsSigned-bounds w (pos n) = (
  λ f. (omega (arith, ints), omega (arith, ints)),
  λ h. record
      { sfits = omega (arith, ints) },
)
FitsSigned-bounds w (negsuc n) = (
  λ f. (omega (arith, ints), omega (arith, ints)),
  λ h. record
      { sfits = omega (arith, ints) },
)

-- what is made of equal parts is equal
pub same_from_parts : {X : Type 0} (f : ℕ → Pos → X) (d e : ℕ) (p q : Pos) → d ≡ e → p ≡ q → f e q ≡ f d p
same_from_parts f d e p q same_d same_p = cc
