-- What a cache is seen as: the values in its lines, a tag for each line, and the counts.
use Rattle.std.specs.Prelude.{◌≡◌, ℕ, zero, suc, ◌+◌, ◌*◌, ◌/◌, ◌%◌, ◌^◌, ◌<◌, ◌≤◌, ◌==◌, Bool, true, false}
use Rattle.std.specs.Prelude.{List, length, replicate, slice_index_or, slice_set, Option, Some, None, refl}
use Rattle.std.specs.Coded.{Coded, code_by, coded×, coded_list, coded_ℕ}
use Rattle.zf_base.specs.Formats.{Format}
use Rattle.zf_cached.specs.State.{Counts}
use Rattle.zf_lines.specs.Rows.{line_at, HasSize}

pub record Kept (X : Type 0) : Type 0 where
  -- a row of values for each line
  pub lines : List (List X)
  pub tags : List ℕ
  pub counts : Counts

-- a number of lines is a power of two, 1 to 65536
abbrev pub IsLineCount : ℕ → Type 0
IsLineCount n = (k : ℕ) × (k ≤ 16) × (n ≡ 2 ^ k)

-- the blocks of a backing: 4^d values each, and not more than a tag has room for
abbrev pub HasBlocks : {Code : Type 0} → Format Code → ℕ → Type 0
HasBlocks format d = (format.block_len ≡ 4 ^ d) × (format.blocks ≤ 2 ^ 32)

-- ---- tags: 0 for an empty line, 2 * b + 2 for the clean block b, 2 * b + 3 for the dirty block b

abbrev pub clean_tag : ℕ → ℕ
clean_tag b = 2 * b + 2

abbrev pub dirty_tag : ℕ → ℕ
dirty_tag b = 2 * b + 3

abbrev pub tag_at : List ℕ → ℕ → ℕ
tag_at tags l = slice_index_or tags l 0

abbrev pub one_less : ℕ → Option ℕ
one_less zero = None
one_less (suc b) = Some b

-- the block that a tag names
abbrev pub block_in : ℕ → Option ℕ
block_in tag = one_less (tag / 2)

-- line l holds block b
abbrev pub IsIn : List ℕ → ℕ → ℕ → Type 0
IsIn tags l b = block_in (tag_at tags l) ≡ Some b

-- no line holds block b
abbrev pub IsAway : List ℕ → ℕ → Type 0
IsAway tags b = (l : ℕ) → IsIn tags l b → ⊥

-- the dirty block that a tag names
abbrev pub dirty_of : ℕ → Option ℕ
dirty_of tag = elim (tag % 2 == 1) [ true ↦ block_in tag | false ↦ None ]

module _ {X : Type 0} where
  -- the line of block b, where `place n tags b` is that in a cache of n lines with these tags
  abbrev pub line_by : (ℕ → List ℕ → ℕ → ℕ) → Kept X → ℕ → ℕ
  line_by place c b = place (length c.tags) c.tags b

  module _ (place : ℕ → List ℕ → ℕ → ℕ) where
    -- block b is in its line
    abbrev pub HoldsAt : Kept X → ℕ → Type 0
    HoldsAt c b = tag_at c.tags (line_by place c b) / 2 ≡ b + 1

    -- the tag of the line of block b is that of the dirty block b
    abbrev pub IsDirtyAt : Kept X → ℕ → Type 0
    IsDirtyAt c b = tag_at c.tags (line_by place c b) ≡ dirty_tag b

    -- block b is in its line and dirty
    abbrev pub is_dirty_at : Kept X → ℕ → Bool
    is_dirty_at c b = tag_at c.tags (line_by place c b) == dirty_tag b

    -- the line of block b has a row of values, as long as all rows are
    pub record HasRowAt (c : Kept X) (b len : ℕ) : Type 0 where
      pub there : line_by place c b < length c.lines
      pub size : HasSize c.lines (length c.lines) len

  -- no line holds a dirty block
  abbrev pub IsClean : Kept X → Type 0
  IsClean c = (l : ℕ) → tag_at c.tags l % 2 ≡ 0

  -- all but line l stays
  pub record OnlyLine (c d : Kept X) (l : ℕ) : Type 0 where
    pub lines : d.lines ≡ slice_set c.lines l (line_at d.lines l)
    pub tags : d.tags ≡ slice_set c.tags l (tag_at d.tags l)

  -- no block is in any of the n lines
  abbrev pub IsEmpty : Kept X → ℕ → Type 0
  IsEmpty c n = c.tags ≡ replicate n 0

  -- block b is dirty in line l, and these are the values there
  abbrev pub written_in : Kept X → ℕ → ℕ → List X → Counts → Kept X
  written_in c l b row counts = record {
    lines = slice_set c.lines l row;
    tags = slice_set c.tags l (dirty_tag b);
    counts = counts;
  }

-- ---- where each block has one line: its number modulo the number of lines

abbrev pub one_line : ℕ → List ℕ → ℕ → ℕ
one_line n tags b = b % n

module _ {X : Type 0} where
  abbrev pub line_of : Kept X → ℕ → ℕ
  line_of c b = line_by one_line c b

  abbrev pub IsDirty : Kept X → ℕ → Type 0
  IsDirty c b = IsDirtyAt one_line c b

  abbrev pub is_dirty : Kept X → ℕ → Bool
  is_dirty c b = is_dirty_at one_line c b

  abbrev pub HasRow : Kept X → ℕ → ℕ → Type 0
  HasRow c b len = HasRowAt one_line c b len

abbrev pub counts_code : Coded Counts
counts_code = code_by (ℕ × (ℕ × ℕ)) (coded× coded_ℕ (coded× coded_ℕ coded_ℕ))
    (λ c. (c.hits, (c.misses, c.writes))) (λ p. record { hits = p.0; misses = p.1.0; writes = p.1.1 })
    (λ _. refl)

abbrev pub kept_code : {X : Type 0} → Coded X → Coded (Kept X)
kept_code {X} c =
    code_by (List (List X) × (List ℕ × Counts))
    (coded× (coded_list (coded_list c)) (coded× (coded_list coded_ℕ) counts_code))
    (λ k. (k.lines, (k.tags, k.counts))) (λ p. record { lines = p.0; tags = p.1.0; counts = p.1.1 })
    (λ _. refl)
