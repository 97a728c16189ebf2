-- What holds of the fields of a cache.
use Rattle.std.specs.Prelude.{◌≡◌, ℕ, ◌+◌, ◌-◌, ◌/◌, ◌%◌, ◌^◌, ◌<◌, ◌≤◌, ℤ, List, length, replicate, bit_and}
use Rattle.zf_base.specs.Formats.{Format}
use Rattle.zf_cached.specs.State.{Counts, State, no_counts}
use Rattle.zf_base.specs.declared.stats.Stats.{Stats}
use Rattle.zf_lines.specs.Rows.{HasSize}
use Rattle.zf_cache.specs.declared.body.Body.{Body}
use Rattle.zf_cache.specs.Kept.{Kept, OnlyLine, tag_at, line_by}
use Rattle.zf_cache.specs.Standing.{FitsAt, state_at}

-- to cut a number by n - 1 is to take it modulo n
abbrev pub IsMask : ℕ → Type 0
IsMask n = (b : ℕ) → b < 2 ^ 64 → bit_and b (n - 1) ≡ b % n

-- a number of lines: one or more, as many at most as can be asked for, and a mask cuts to them
pub record AreLines (n : ℕ) : Type 0 where
  pub some : 0 < n
  pub most : n ≤ 2 ^ 16
  pub mask : IsMask n

abbrev pub counts_of : Stats → Counts
counts_of s = record { hits = s.hits; misses = s.misses; writes = s.writes }

-- a line behind the first w is empty
abbrev pub IsBlank : ℕ → List ℕ → Type 0
IsBlank w tags = (l : ℕ) → w ≤ l → tag_at tags l ≡ 0

module _ {X : Type 0} where
  abbrev pub kept_of : Body X → Kept X
  kept_of c = record { lines = c.lines.blocks; tags = c.tags.items; counts = counts_of c.counts }

  -- a tag and a row of so many values for each line; the row of a line that is not empty is written
  pub record IsWhole (c : Body X) (len : ℕ) : Type 0 where
    pub size : HasSize c.lines.blocks (length c.tags.items) len
    pub blank : IsBlank c.lines.written c.tags.items
    pub lines : AreLines (length c.tags.items)

  -- empty lines of so many values each, and counts of 0
  pub record IsNewBody (c : Body X) (lines len : ℕ) : Type 0 where
    pub whole : IsWhole c len
    pub empty : c.tags.items ≡ replicate lines 0
    pub counts : counts_of c.counts ≡ no_counts

  module _ (place : ℕ → List ℕ → ℕ → ℕ) where
    -- a touch comes to line l: it is that of block b, it has a row and then holds the block, and no other
    -- line changes
    pub record ComesTo (c d : Kept X) (b l : ℕ) : Type 0 where
      pub at : l ≡ line_by place c b
      pub row : l < length d.lines
      pub here : tag_at d.tags l / 2 ≡ b + 1
      pub others : OnlyLine c d l

    -- so it does, and the row of that line was written
    pub record IsTouchedAt (c d : Body X) (b l : ℕ) : Type 0 where
      pub comes : ComesTo (kept_of c) (kept_of d) b l
      pub written : l < d.lines.written

    module _ {Code : Type 0} (value : X → ℤ) where
      -- the state that the fields and the backing stand for
      abbrev pub state_in : Body X → Format Code → (ℕ → Code) → State Code
      state_in c format codes = state_at place value (kept_of c) format codes

      -- the fields are whole, and fit the backing
      pub record IsSound (c : Body X) (format : Format Code) (codes : ℕ → Code) : Type 0 where
        pub whole : IsWhole c format.block_len
        pub fits : FitsAt place value (kept_of c) format codes

      -- so they are, and block b is one of the backing's, which are not more than a tag has room for
      pub record IsSoundAt (c : Body X) (format : Format Code) (codes : ℕ → Code) (b : ℕ) : Type 0 where
        pub sound : IsSound c format codes
        pub block : (b < format.blocks) × (format.blocks ≤ 2 ^ 32)
