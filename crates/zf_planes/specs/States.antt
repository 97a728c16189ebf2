-- Where reading of planes stands, and what was read from one such place to another.
use Rattle.std.specs.Prelude.{ℕ, ◌≡◌, ◌+◌, ◌-◌, ◌<◌, ◌≤◌, Bool, List, ◌++◌, length}
use Rattle.zf_bits.specs.Reader.{Reader, rest}
use Rattle.zf_planes.specs.Decoding.{planes_ahead, planes_bits, Takes}

-- what is left of the budget, how far the ones above reach, and where the reader is
pub record State : Type 0 where
  pub left : ℕ
  pub above : ℕ
  pub reader : Reader

-- the next p planes, and how many bits they take
abbrev pub to_come : ℕ → ℕ → State → List (List Bool)
to_come size p s = planes_ahead s.left p size s.above (rest s.reader)

abbrev pub bits_to_come : ℕ → ℕ → State → ℕ
bits_to_come size p s = planes_bits s.left p size s.above (rest s.reader)

-- the bits of the next p planes are not there
abbrev pub Lack : ℕ → ℕ → State → Type 0
Lack size p s = length (rest s.reader) < bits_to_come size p s

-- n planes were read from s to t and put behind those before: whatever comes behind them is to come at t
pub record Comes (size n : ℕ) (s : State) (before : List (List Bool)) (t : State) (after : List (List Bool))
    : Type 0 where
  pub planes : (p q : ℕ) → n + q ≡ p → before ++ to_come size p s ≡ after ++ to_come size q t
  pub bits : (p q : ℕ) → n + q ≡ p → bits_to_come size p s ≡ s.left - t.left + bits_to_come size q t
  pub passed : Takes s.reader t.reader s.left t.left (s.left - t.left)
  pub risen : s.above ≤ t.above
  pub ranks : s.above ≤ size → t.above ≤ size
