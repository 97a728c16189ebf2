-- What comes of reading a code at the front of a reader's bits: it is passed whole, or the bits end before it
-- does.
use Rattle.std.specs.Prelude.{ℕ, ℤ, ◌≡◌, ◌<◌, ◌≤◌, ◌-◌, Bool, false, List, ◌∷◌, Option, IfNone, IfSome, OnSome, IsTrue}
use Rattle.std.specs.Prelude.{length, take, replicate}
use Rattle.std.specs.Int.{Width}
use Rattle.zf_spec.specs.Codes.{coefficients_of}
use Rattle.zf_spec.specs.Planes.{planes_of}
use Rattle.zf_coef.specs.HeldDigits.{digits_in}
use Rattle.zf_bits.specs.Reader.{Reader, rest, Reads}
use Rattle.zf_block.specs.Block.{AreAbove}

-- a code of so many bits is there whole, and just its bits were passed
pub record PassesCode (len : ℕ) (old new : Reader) : Type 0 where
  pub whole : len ≤ length (rest old)
  pub passed : Reads old new (take len (rest old))

-- so many bits are there, and the first ones of them, so many, are zero
abbrev pub ZerosNext : ℕ → ℕ → List Bool → Type 0
ZerosNext len zeros bits = (len ≤ length bits) × (take zeros bits ≡ replicate zeros false)

-- a reader moves only where it was seen that it may, and then this is so
abbrev pub MovesIf : Bool → Reader → Reader → Type 0 → Type 0
MovesIf seen old new Moved = (¬ IsTrue seen → new ≡ old) × (IsTrue seen → Moved)

-- the bits end before a code of so many bits does, and the reader stands where it stood
pub record LacksBits (len : ℕ) (old new : Reader) : Type 0 where
  pub short : length (rest old) < len
  pub unread : new ≡ old

-- a code was read: the bits tell how long it is, and what it means if it is whole. The result is `None` if it
-- isn't
abbrev pub Decodes : {A : Type 0} → (List Bool → ℕ) → (List Bool → Type 0) → Option A → Reader → Reader
    → Type 0
Decodes len Means result old new =
    IfNone result (LacksBits (len (rest old)) old new)
    × OnSome result (PassesCode (len (rest old)) old new × Means (rest old))

-- a meaning: these are the values of the block, which a transform makes of the planes that bits stand for
abbrev pub StandsFor : Width → ℕ → (List ℤ → List ℤ) → (List Bool → List (List Bool)) → List ℤ → List Bool
    → Type 0
StandsFor w d back planes_at block bits = block ≡ back (coefficients_of w d (planes_at bits))

-- a meaning: of the planes that are held, the top ones are those that bits stand for, and all below are zero
abbrev pub HoldsAbove : ℕ → (List Bool → List (List Bool)) → List (List Bool) → List Bool → Type 0
HoldsAbove size planes_at held bits = AreAbove size (planes_at bits) held

-- a code of planes in which the first rank alone has ones is read only where it is seen: then it was passed
-- whole, and these are the digits of the first rank
abbrev pub FindsFirst : ℕ → ℕ → (List Bool → ℕ) → (List Bool → List (List Bool)) → Option ℕ → Reader → Reader
    → Type 0
FindsFirst w size len planes_at result old new =
    IfNone result (new ≡ old)
    × OnSome result (PassesCode (len (rest old)) old new)
    × IfSome result (λ u. HoldsAbove size planes_at
    (planes_of w (digits_in w (u ∷ replicate (size - 1) 0))) (rest old))
