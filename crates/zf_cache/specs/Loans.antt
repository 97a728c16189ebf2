-- What a cache ends as, once a loan has ended, and what that means for the state that it stands for.
use Rattle.std.specs.Prelude.{◌≡◌, ℕ, ℤ, List, [], ◌∷◌, map, ⊤}
use Rattle.std.specs.Borrow.{Fml, RattleType, MutBor, Array, Lends, follows_so}
use mathlib.Core.Option.{none}
use Rattle.zf_base.specs.Formats.{Format, existing_of}
use Rattle.zf_cached.specs.State.{State}
use Rattle.zf_cached.specs.Placing.{Line}
use Rattle.zf_cached.specs.Touch.{touch_at, touch_for_writing_at, with_values}
use Rattle.zf_lines.specs.Rows.{over, with_part}
use Rattle.zf_cache.specs.Kept.{Kept, IsClean, line_by, one_line, written_in}
use Rattle.zf_cache.specs.Standing.{state_at, FitsAt}
use Rattle.zf_cache.specs.contracts.cache.CacheBy.{the_row}

module _ {X Code : Type 0} (place : ℕ → List ℕ → ℕ → ℕ) (value : X → ℤ) where
  -- the cache d, over these codes, stands for this state, and fits
  pub record StandsForAt (d : Kept X) (format : Format Code) (codes : ℕ → Code) (s : State Code)
      : Type 0 where
    pub state : state_at place value d format codes ≡ s
    pub fits : FitsAt place value d format codes

  -- the line of a block is `line` as a state tells
  module _ (line : Line) where
    -- the cache c with block b dirty and ws over the row that was lent; its counts are those after the touch
    abbrev pub lent_block_at : Format Code → (ℕ → Code) → Kept X → ℕ → List X → List X → Kept X
    lent_block_at format codes c b row ws = written_in c (line_by place c b) b (over row ws)
        (touch_at line format (state_at place value c format codes) b).counts

    -- the row that is lent has the values of block b; and whatever list ws is written through the loan, the
    -- block has its values, and is dirty
    pub record LendsBlockAt (format : Format Code) (codes now : ℕ → Code) (c : Kept X) (b : ℕ) (row : List X)
        : Type 0 where
      pub held : existing_of format b (map value row)
          ≡ (touch_at line format (state_at place value c format codes) b).values b
      pub written : (ws : List X) → StandsForAt (lent_block_at format codes c b row ws) format now
          (with_values (touch_for_writing_at line format (state_at place value c format codes) b) b
          (existing_of format b (map value (over row ws))))

-- a cache by the rule K, of values R, in D dimensions
module _ (K R D : RattleType) (c : MutBor (Kept R.Denot)) (place : ℕ → List ℕ → ℕ → ℕ) where
  -- n values of block b from its place a on are the last ones written through r
  abbrev pub EndsWithPart : ℕ → ℕ → ℕ → MutBor (List R.Denot) → Fml
  EndsWithPart b a n r = Lends (the_row K R D) (Array R 0) c r
      (λ ws. record c.now { lines = with_part c.now.lines (line_by place c.now b) a n ws })

  -- the value of block b at its place p is the last one written through r
  abbrev pub EndsWithValue : ℕ → ℕ → MutBor R.Denot → Fml
  EndsWithValue b p r = Lends (the_row K R D) R c r
      (λ v. record c.now { lines = with_part c.now.lines (line_by place c.now b) p 1 (v ∷ []) })

  module _ (line : Line) {Code : Type 0} (value : R.Denot → ℤ) (format : Format Code) (codes : ℕ → Code) where
    -- the block in its line is the last list written through r
    abbrev pub EndsWithBlock : ℕ → MutBor (List R.Denot) → Fml
    EndsWithBlock b r = Lends (the_row K R D) (Array R 0) c r
        (lent_block_at place value line format codes c.now b r.now)

    -- a loan for reading has left the touch alone
    abbrev pub EndsTouched : (ℕ → Code) → ℕ → Fml
    EndsTouched now b = follows_so (the_row K R D) (the_row K R D) c.ghost_name none (λ _ _. ⊤)
        (λ d. StandsForAt place value d format now
        (touch_at line format (state_at place value c.now format codes) b))

    -- the same where nothing is dirty, before and after
    abbrev pub EndsRead : (ℕ → Code) → ℕ → Fml
    EndsRead now b = follows_so (the_row K R D) (the_row K R D) c.ghost_name none (λ _ _. ⊤)
        (λ d. StandsForAt place value d format now
        (touch_at line format (state_at place value c.now format codes) b) × IsClean d)

-- where each block has one line
abbrev pub StandsFor : {X Code : Type 0} → (X → ℤ) → Kept X → Format Code → (ℕ → Code) → State Code → Type 0
StandsFor value d format codes s = StandsForAt one_line value d format codes s
