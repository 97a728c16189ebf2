-- Counts of faults: how a count rises, and what an error has to show.
use Rattle.std.specs.Prelude.{ℕ, ◌+◌, ◌-◌, ◌^◌, ◌<◌, ◌≤◌, min}

-- one more, up to the last value of a `u64`, where a count stands still
abbrev pub next_count : ℕ → ℕ
next_count count = min (count + 1) (2 ^ 64 - 1)

-- the count rose, or stands at its last value
abbrev pub Rose : ℕ → ℕ → Type 0
Rose before now = next_count before ≤ now

-- the count neither rose nor stands at its last value
abbrev pub IsQuiet : ℕ → ℕ → Type 0
IsQuiet before now = now < next_count before

-- the count has not fallen, and this fault comes only where it rose
abbrev pub HasCause : Type 0 → ℕ → ℕ → Type 0
HasCause fault before now = (before ≤ now) × (fault → Rose before now)
