-- Passes over all blocks of an array that has more of them than its cache has lines.
use Rattle.std.specs.Prelude.{ℕ, suc, zero, ◌≡◌, ◌+◌, ◌*◌, ◌≤◌, Some}
use Rattle.zf_base.specs.Formats.{Format}
use Rattle.zf_cached.specs.State.{State}
use Rattle.zf_cached.specs.Touch.{touch}

-- the first n blocks are touched, in order
unfoldable pub touched_below : {Code : Type 0} → Format Code → State Code → ℕ → State Code
touched_below format s zero = s
touched_below format s (suc n) = touch format (touched_below format s n) n

-- each line has at least two of the n blocks, and none but the last ones are in the lines: as many as there
-- are lines
pub record HasLastBlocks {Code : Type 0} (n : ℕ) (s : State Code) : Type 0 where
  pub two_for_a_line : 2 * s.lines ≤ n
  pub last : (l b : ℕ) → s.held l ≡ Some b → n ≤ b + s.lines
