-- What was written of a code, as far as a budget reaches.
use Rattle.std.specs.Prelude.{ℕ, ◌≡◌, ◌+◌, ◌-◌, ◌^◌, ◌<◌, ◌≤◌, min, Bool, List, ◌++◌, length, take}
use Rattle.zf_spec.specs.Numbers.{field}
use Rattle.zf_bits.specs.Writer.{Writer, Appends}

-- r bits were left of the budget, and so many are after it
pub record Writes (r after : ℕ) (old new : Writer) (code : List Bool) : Type 0 where
  pub bits : Appends old new (take r code)
  pub left : after ≡ r - length code

-- a writer was to get the prefix of a whole list, as far as a budget reaches: it got so
-- much that, with this many bits left, the rest is still to come
pub record Remains (old now : Writer) (budget left : ℕ) (whole rest : List Bool) : Type 0 where
  pub bits : now.bits ++ take left rest ≡ old.bits ++ take budget whole
  pub spent : left - length rest ≡ budget - length whole
  pub fits : min left (length rest) ≤ now.room
  pub room : old.room + min left (length rest) ≤ now.room + min budget (length whole)
  pub within : left ≤ budget

-- the code was written but for its end, which is the l bits of v and fits a word
pub record LeavesPart (r after : ℕ) (old new : Writer) (whole : List Bool) (l v : ℕ) : Type 0 where
  pub code : Remains old new r after whole (field l v)
  pub small : v < 2 ^ l
  pub len : l ≤ 64
