-- The state that a cache and the backing under it stand for, and when the two fit.
--     `place n tags b` is the line of block b in a cache of n lines with these tags. A value of the program is seen as
--     a whole number.
use Rattle.std.specs.Prelude.{◌≡◌, ℕ, ◌<◌, ◌==◌, ℤ, true, false, List, length, map, Some, None}
use Rattle.zf_base.specs.Formats.{Format, existing_of, meant, with_at}
use Rattle.zf_cached.specs.State.{State, is_block}
use Rattle.zf_cached.specs.Touch.{write_back_line}
use Rattle.zf_lines.specs.Rows.{line_at}
use Rattle.zf_cache.specs.Kept.{Kept, tag_at, clean_tag, dirty_tag, block_in, line_by, one_line}

module _ {X Code : Type 0} (value : X → ℤ) where
  -- the values in a line, as those of block b
  abbrev pub line_values : Kept X → Format Code → ℕ → ℕ → List ℤ
  line_values c format l b = existing_of format b (map value (line_at c.lines l))

module _ (place : ℕ → List ℕ → ℕ → ℕ) {X Code : Type 0} where
  -- the values of block b: those in its line where it is there, else those that its code means
  abbrev pub values_by : (X → ℤ) → Kept X → Format Code → (ℕ → Code) → ℕ → List ℤ
  values_by value c format codes b =
      elim (is_block (block_in (tag_at c.tags (line_by place c b))) b) [
        | true ↦ line_values value c format (line_by place c b) b
        | false ↦ meant format b (codes b)
      ]

  -- the state that cache and backing stand for: lines, dirty blocks and counts are the cache's, codes the
  -- backing's
  unfoldable pub state_at : (X → ℤ) → Kept X → Format Code → (ℕ → Code) → State Code
  state_at value c format codes = record {
    lines = length c.tags;
    held = λ l. block_in (tag_at c.tags l);
    dirty = λ b. tag_at c.tags (line_by place c b) == dirty_tag b;
    values = values_by value c format codes;
    codes = codes;
    counts = c.counts;
  }

  -- a line holds a block whose line it is and that the backing has, and a clean line has the values that the
  -- block's code means
  pub record FitsAt (value : X → ℤ) (c : Kept X) (format : Format Code) (codes : ℕ → Code) : Type 0 where
    pub own : (l b : ℕ) → block_in (tag_at c.tags l) ≡ Some b → (line_by place c b ≡ l) × (b < format.blocks)
    pub clean : (l b : ℕ) → tag_at c.tags l ≡ clean_tag b
        → line_values value c format l b ≡ meant format b (codes b)

-- ---- where each block has one line

module _ {X Code : Type 0} (value : X → ℤ) where
  abbrev pub values_of : Kept X → Format Code → (ℕ → Code) → ℕ → List ℤ
  values_of c format codes b = values_by one_line value c format codes b

  abbrev pub state_of : Kept X → Format Code → (ℕ → Code) → State Code
  state_of c format codes = state_at one_line value c format codes

  abbrev pub Fits : Kept X → Format Code → (ℕ → Code) → Type 0
  Fits c format codes = FitsAt one_line value c format codes

-- the block in a line, if any, is written back where it is dirty, and then the line is empty
unfoldable pub evicted : {Code : Type 0} → Format Code → State Code → ℕ → State Code
evicted format s l = let t = write_back_line format s l in record t { held = with_at t.held l None }
