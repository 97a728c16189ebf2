-- The spans of an index.
use Rattle.std.specs.Prelude.{ℕ, ◌≡◌, ◌+◌, ◌≤◌, ◌<◌, Bool, List, length, take, drop}
use Rattle.zf_index.specs.Spans.{Index, len_at, place}

-- each code ends among so many bits and has room in so many, and none is longer than the longest at a fixed
-- rate
abbrev pub AreInside : Index → ℕ → ℕ → Type 0
AreInside i bits room = (b : ℕ) → b < length i.lens → (place i b + len_at i b ≤ bits)
    × (len_at i b + 64 ≤ room) × (len_at i b ≤ 32768)

-- these bits are those of a file from this place on, as many as they are
abbrev pub AreFrom : ℕ → List Bool → List Bool → Type 0
AreFrom from file bits = bits ≡ take (length bits) (drop from file)
