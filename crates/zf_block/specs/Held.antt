-- Planes of a block as they are held in words, beside the digits that they are made of.
use Rattle.std.specs.Prelude.{ℕ, ◌≡◌, ◌≤◌, ◌*◌, Bool, List, length, map, take, replicate}
use Rattle.zf_spec.specs.Grid.{IsBlockSize}
use Rattle.zf_spec.specs.Planes.{planes_of, code}
use Rattle.zf_spec.specs.HeldPlanes.{planes_held}
use Rattle.zf_coef.specs.HeldDigits.{digits_in}

-- a size of blocks whose planes fit into so many words
abbrev pub IsHeldSize : ℕ → ℕ → Type 0
IsHeldSize size words = IsBlockSize size × (size ≤ 64 * words)

-- room for the digits of a block of this size and for its planes, each of so many words: one plane for each
-- digit
abbrev pub IsWorkRoom : {P : Type 0} → ℕ → ℕ → ℕ → List ℕ → List P → Type 0
IsWorkRoom size words width digits planes =
    IsHeldSize size words × (length digits ≡ size) × (length planes ≡ width)

-- so many planes, each of so many words that are all zero
abbrev pub AreBlank : {P : Type 0} → ℕ → ℕ → (P → List ℕ) → List P → Type 0
AreBlank width count words planes =
    (length planes ≡ width) × (map words planes ≡ replicate width (replicate count 0))

-- what is held are these planes, and they are the planes of so many digits of the coefficients that are held
abbrev pub HoldPlanes : ℕ → ℕ → List (List ℕ) → List ℕ → List (List Bool) → Type 0
HoldPlanes size width held digits planes =
    (planes_held size held ≡ planes) × (planes_held size held ≡ planes_of width (digits_in width digits))

-- the code of so many top planes, among the w planes that the digits of coefficients have
unfoldable pub top_code : ℕ → ℕ → List ℕ → List Bool
top_code k w digits = code (take k (planes_of w (digits_in w digits)))
