-- A cache and the backing under it, seen as one. When a cache fits a format and codes, and which state they
-- stand for, is given: so these records serve every kind of cache.
use Rattle.std.specs.Prelude.{◌≡◌, ◌^◌, ◌<◌, ℕ, ℤ, List, length, map}
use Rattle.zf_base.specs.Formats.{Format, existing_of}
use Rattle.zf_base.specs.declared.backing.Reading.{Ghosts as Reading}
use Rattle.zf_cached.specs.State.{State}
use Rattle.zf_cache.specs.Kept.{HasBlocks}

module _ {B X : Type 0} (R : Reading B X) where
  -- of a backing all but the codes stays
  pub record KeepsFormat (back now : B) : Type 0 where
    pub format : R.format now ≡ R.format back
    pub kept : R.kept now ≡ R.kept back

  -- this row has the 4^d values of block b in this state, and of the backing all but the codes stays
  pub record Shows (value : X → ℤ) (s : State R.Code) (d b : ℕ) (row : List X) (back now : B) : Type 0 where
    pub value_is : existing_of (R.format back) b (map value row) ≡ s.values b
    pub size : length row ≡ 4 ^ d
    pub format : R.format now ≡ R.format back
    pub kept : R.kept now ≡ R.kept back

  module _ {C : Type 0} where
    -- the cache and the backing fit, and the backing's blocks have d axes
    pub record Backed (Fit : C → Format R.Code → (ℕ → R.Code) → Type 0)
        (d : ℕ) (c : C) (back : B) : Type 0 where
      pub fits : Fit c (R.format back) (R.codes back)
      pub blocks : HasBlocks (R.format back) d

    -- so they do, and block b is one of the backing's
    pub record BackedAt (Fit : C → Format R.Code → (ℕ → R.Code) → Type 0)
        (d : ℕ) (c : C) (back : B) (b : ℕ) : Type 0 where
      pub fits : Fit c (R.format back) (R.codes back)
      pub blocks : HasBlocks (R.format back) d
      pub below : b < (R.format back).blocks

    -- the two have made this step: they fit again, and of the backing all but the codes stays
    pub record StepsTo (stands : C → Format R.Code → (ℕ → R.Code) → State R.Code)
        (Fit : C → Format R.Code → (ℕ → R.Code) → Type 0)
        (step : Format R.Code → State R.Code → State R.Code)
        (c : C) (back : B) (new : C) (now : B) : Type 0 where
      pub state : stands new (R.format now) (R.codes now)
          ≡ step (R.format back) (stands c (R.format back) (R.codes back))
      pub fits : Fit new (R.format now) (R.codes now)
      pub format : R.format now ≡ R.format back
      pub kept : R.kept now ≡ R.kept back
