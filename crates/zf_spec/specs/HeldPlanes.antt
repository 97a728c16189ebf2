-- Planes as they are held in words.
--     A plane is four words of 64 bits, one bit for each rank; planes are numbered by their digit, the lowest first.
use Rattle.std.specs.Prelude.{ℕ, ◌≡◌, ◌-◌, Bool, false, List, map, length, reverse, take, drop, replicate}
use Rattle.zf_spec.specs.Numbers.{word_bits}

-- the digits of a plane of this size, by rank: digit r is bit r mod 64 of word r / 64
unfoldable pub digits_held : ℕ → List ℕ → List Bool
digits_held size words = take size (word_bits words)

-- the digits of planes, the greatest first
unfoldable pub planes_held : ℕ → List (List ℕ) → List (List Bool)
planes_held size planes = map (digits_held size) (reverse planes)

-- a plane has no bit from this rank on
unfoldable pub IsClearFrom : ℕ → List ℕ → Type 0
IsClearFrom size words = drop size (word_bits words) ≡ replicate (length (word_bits words) - size) false
