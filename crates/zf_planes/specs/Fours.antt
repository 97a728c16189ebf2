-- Planes of four digits in one number.
use Rattle.std.specs.Prelude.{ℕ, suc, zero, ◌≡◌, ◌^◌, ◌/◌, ◌%◌, ◌<◌, ◌≤◌, min, max, Bool, List, [], ◌∷◌, ◌++◌}
use Rattle.zf_spec.specs.Numbers.{field}
use Rattle.zf_spec.specs.Planes.{plane_code, code_from, reach, reach_of_all}
use Rattle.zf_bits.specs.Writer.{Writer}
use Rattle.zf_planes.specs.Writes.{Remains}

-- k planes, four bits each, the first plane lowest
unfoldable pub string_planes : ℕ → ℕ → List (List Bool)
string_planes zero digits = []
string_planes (suc k) digits = field 4 digits ∷ string_planes k (digits / 16)

-- the ones of planes of four digits reach as far, as their codes see it: once three ranks have had a one, a
-- plane is its own code
abbrev pub IsAsGood : ℕ → ℕ → Type 0
IsAsGood m n = min 3 m ≡ min 3 n

-- the l bits of v are the code of the first two planes of a string, behind ranks below n that have had a one
-- above, and so far do the ones of all these reach
pub record IsCodeOfTwo (n string l v a : ℕ) : Type 0 where
  pub bits : field l v ≡ plane_code n (field 4 (string % 16))
      ++ plane_code (max n (reach (field 4 (string % 16)))) (field 4 (string / 16 % 16))
  pub small : v < 2 ^ l
  pub len : l ≤ 14
  pub above : a ≡ max (max n (reach (field 4 (string % 16)))) (reach (field 4 (string / 16 % 16)))

-- the code of planes is the l bits of v and then that of the others, with ones above that reach to a
pub record GoesOnBehind (n : ℕ) (planes : List (List Bool)) (l v a : ℕ) (rest : List (List Bool)) : Type 0
  where
    pub bits : code_from n planes ≡ field l v ++ code_from a rest
    pub reached : max n (reach_of_all planes) ≡ max a (reach_of_all rest)
    pub small : v < 2 ^ l
    pub len : l ≤ 14

-- bits and behind them the code of planes were written, as far as `left` bits reach, of which `after` are
-- left, but for the end, which is the l bits of v; if more than these are left, the ones reach to a, where
-- three stands for four too
pub record LeavesPlanes (left after n a : ℕ) (old new : Writer) (bits : List Bool) (planes : List (List Bool)) (l v : ℕ) : Type 0
  where
    pub code : Remains old new left after (bits ++ code_from n planes) (field l v)
    pub len : min after l ≤ 64
    pub within : a ≤ 4
    pub reached : l < after → IsAsGood a (max n (reach_of_all planes))
