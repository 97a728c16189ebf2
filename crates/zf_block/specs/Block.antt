-- Blocks whose values a type has, and their planes.
use Rattle.std.specs.Prelude.{◌≡◌, ◌≤◌, ◌^◌, ℕ, ℤ, Bool, false, List, ◌++◌, All, FitsSigned}
use Rattle.std.specs.Prelude.{length, take, replicate}
use Rattle.std.specs.Int.{Width}
use Rattle.zf_base.specs.{Positions.{IsExtent}, declared.position.Extent.{Extent}}
use mir.Val.{bits}

-- a block of this type, of at most 64 bits, of which as many values exist along each axis
pub record IsBlock (w : Width) (es : List ℕ) (block : List ℤ) : Type 0 where
  pub narrow : bits w ≤ 64
  pub extent : All (λ e. (1 ≤ e) × (e ≤ 4)) es
  pub values : All (λ v. FitsSigned w v) block

-- these planes of this size are the top ones of those that are held, and all below are zero
abbrev pub AreAbove : ℕ → List (List Bool) → List (List Bool) → Type 0
AreAbove size planes held = (n : ℕ) × (held ≡ planes ++ replicate n (replicate size false))

-- of the top planes of this size, so many, the first ones, so many, have no one
abbrev pub AreTopZeros : ℕ → ℕ → ℕ → List (List Bool) → Type 0
AreTopZeros zeros prec size planes = (zeros ≤ prec) × (take zeros planes ≡ replicate zeros (replicate size false))

-- a list has a value for each place of a block of d dimensions, of which this extent exists
abbrev pub IsPart : {A : Type 0} → ℕ → Extent → List A → Type 0
IsPart d e block = IsExtent d e × (length block ≡ 4 ^ d)

-- a list has a value for each place of a block of more than one dimension
abbrev pub IsWide : {A : Type 0} → ℕ → List A → Type 0
IsWide d block = (length block ≡ 4 ^ d) × ¬ (d ≡ 1)
