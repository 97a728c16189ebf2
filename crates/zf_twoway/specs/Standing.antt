-- The state that a two-way cache and the backing under it stand for, and when the two fit. A value of the
-- program is seen as a whole number.
use Rattle.std.specs.Prelude.{◌≡◌, ℕ, ◌<◌, ℤ, Bool, length}
use Rattle.zf_base.specs.Formats.{Format, meant}
use Rattle.zf_cached.specs.State.{State}
use Rattle.zf_cache.specs.Kept.{Kept, IsIn, tag_at, clean_tag, is_dirty_at}
use Rattle.zf_cache.specs.Standing.{line_values, state_at, FitsAt}
use Rattle.zf_twoway.specs.Placing.{skewed, IsOneOfTwo}

-- block b is in one of its two lines and dirty
abbrev pub is_dirty : {X : Type 0} → Kept X → ℕ → Bool
is_dirty c b = is_dirty_at skewed c b

module _ {X Code : Type 0} (value : X → ℤ) where
  -- lines, dirty blocks and counts are the cache's, codes the backing's
  abbrev pub state_of : Kept X → Format Code → (ℕ → Code) → State Code
  state_of c format codes = state_at skewed value c format codes

  -- a line holds a block whose line it is and that the backing has, and a clean line has the values that the
  -- block's code means
  abbrev pub Fits : Kept X → Format Code → (ℕ → Code) → Type 0
  Fits c format codes = FitsAt skewed value c format codes

  -- the same in the words of two lines: a line holds a block that has it as its first or its second line,
  -- and that the backing has; no block is in two lines; and a clean line has the values that the block's code
  -- means
  pub record HasTwoLines (c : Kept X) (format : Format Code) (codes : ℕ → Code) : Type 0 where
    pub own : (l b : ℕ) → IsIn c.tags l b → IsOneOfTwo (length c.tags) b l × (b < format.blocks)
    pub once : (l m b : ℕ) → IsIn c.tags l b → IsIn c.tags m b → l ≡ m
    pub clean : (l b : ℕ) → tag_at c.tags l ≡ clean_tag b
        → line_values value c format l b ≡ meant format b (codes b)
