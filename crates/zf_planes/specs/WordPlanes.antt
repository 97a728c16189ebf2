-- Planes of up to 64 digits by the bits of their code.
use Rattle.std.specs.Prelude.{ℕ, ◌≡◌, ◌+◌, ◌-◌, ◌*◌, ◌^◌, ◌<◌, ◌≤◌, max, Bool, List, ◌++◌, drop}
use Rattle.zf_spec.specs.Numbers.{field}
use Rattle.zf_spec.specs.Planes.{tail, plane_code, code_from, reach}
use Rattle.zf_planes.specs.Doubled.{doubled}

-- where the ranks below n have had a one above, the code of the plane of these digits has so many bits and
-- begins these bits, and its ones and those above reach so far
pub record IsReadAs (n size bits digits len above : ℕ) : Type 0 where
  pub code : plane_code n (field size digits) ≡ field len bits
  pub small : digits < 2 ^ size
  pub reached : above ≡ max n (reach (field size digits))

-- the tail of so many digits behind whose group bit of one these bits come: its digits, the length of its code
-- with that bit, and how far its ones reach
pub record IsTail (most bits digits l a : ℕ) : Type 0 where
  pub code : tail (field most digits) ≡ field l (2 * bits + 1)
  pub some : 0 < digits
  pub small : digits < 2 ^ most
  pub len : l < 10
  pub above : a ≡ reach (field most digits)

-- or the first a digits of its run, fewer than all, whose code 96 less than l of the bits are
pub record IsBegun (most bits digits l a : ℕ) : Type 0 where
  pub code : doubled (field a digits) ≡ field (l - 96) bits
  pub small : digits < 2 ^ a
  pub fewer : a < most
  pub taken : (95 < l) × (l < 105)

pub record IsTailEntry (most bits digits l a : ℕ) : Type 0 where
  pub some : 0 < l
  pub few : l < 105
  pub within : a < 16
  pub tail : l ≤ 64 → IsTail most bits digits l a
  pub begun : 64 < l → IsBegun most bits digits l a

-- the tail of these digits and of zeros behind them, whose ones reach so far, is the l bits of the digits and so
-- much more; where no digit is behind the last one, without the last two
pub record IsTailCode (digits more l a : ℕ) : Type 0 where
  pub whole : (most : ℕ) → a < most → tail (field most digits) ≡ field l (digits + more)
  pub last : tail (field a digits) ≡ field (l - 2) (digits + more)
  pub bits : digits + more < 2 ^ l
  pub some : 0 < l
  pub two : 0 < a → 2 < l
  pub few : l ≤ 17
  pub within : digits < 2 ^ a
  pub reached : reach (field a digits) ≡ a
  pub least : (most : ℕ) → digits < 2 ^ most → a ≤ most

-- the code of the plane of these digits, of any size, in which the ranks below n have had a one above, is these
-- bits, and so far do its ones and those above reach; where no rank is behind the last one, without the last two
pub record IsShortCode (n digits l bits a : ℕ) : Type 0 where
  pub whole : (size : ℕ) → a < size → plane_code n (field size digits) ≡ field l bits
  pub last : n < a → plane_code n (field a digits) ≡ field (l - 2) bits
  pub small : bits < 2 ^ l
  pub some : 0 < l
  pub two : n < a → 2 < l
  pub len : l ≤ 64
  pub order : n ≤ a
  pub reached : (size : ℕ) → a ≤ size → max n (reach (field size digits)) ≡ a
  pub least : (size : ℕ) → n ≤ size → digits < 2 ^ size → a ≤ size

-- these bits are the whole code of the plane, whose ones reach no farther than those above
pub record IsPlainCode (n size digits l bits : ℕ) : Type 0 where
  pub code : plane_code n (field size digits) ≡ field l bits
  pub small : bits < 2 ^ l
  pub some : 0 < l
  pub len : l ≤ 64
  pub shorter : n < size → l ≡ n + 1
  pub same : max n (reach (field size digits)) ≡ n

-- of p planes, the code of those from the one of number `from` on is the l bits of v, and behind them that of
-- those from the i-th on; so far do the ones above these reach
pub record AreBegun (from p : ℕ) (planes : List (List Bool)) (l v a i : ℕ) : Type 0 where
  pub code : code_from 0 (drop from planes) ≡ field l v ++ code_from a (drop i planes)
  pub small : v < 2 ^ l
  pub len : l ≤ 64
  pub above : a ≤ 4
  pub next : i ≤ p
