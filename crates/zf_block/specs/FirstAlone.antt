-- Planes in which the first rank alone has ones, as those of a block of one value, and their code.
use Rattle.std.specs.Prelude.{ℕ, ◌≡◌, ◌<◌, ◌≤◌, ◌-◌, ◌^◌, Bool, true, false, List, [], ◌∷◌, length, map, reverse, take, replicate}
use Rattle.zf_spec.specs.Numbers.{field}
use Rattle.zf_bits.specs.Reader.{Reader, Reads}
use Rattle.zf_planes.specs.Spread.{lone_code}

-- the k lowest digits of a number, the greatest first
abbrev pub digits_down : ℕ → ℕ → List Bool
digits_down k u = reverse (field k u)

-- planes of this size of which the first rank has these digits
abbrev pub first_planes : ℕ → List Bool → List (List Bool)
first_planes size ds = map (λ d. d ∷ replicate (size - 1) false) ds

-- their code: a bit for each plane of zeros at the top; behind the first digit that is one, as behind each
-- that follows, a group bit of zero
unfoldable pub first_code : List Bool → List Bool
first_code [] = []
first_code (false ∷ ds) = false ∷ first_code ds
first_code (true ∷ ds) = true ∷ true ∷ false ∷ lone_code ds

-- bits begin with the code of k such planes, which has so many bits; these are the digits of the first rank
pub record IsFirstCode (k u len : ℕ) (s : List Bool) : Type 0 where
  pub bits : take len s ≡ first_code (digits_down k u)
  pub there : len ≤ length s
  pub some : 1 ≤ k
  pub small : u < 2 ^ k

-- so many digits came next, each with a group bit of zero behind it
pub record ReadsDigits (k u : ℕ) (old new : Reader) : Type 0 where
  pub reads : Reads old new (lone_code (digits_down k u))
  pub small : u < 2 ^ k
