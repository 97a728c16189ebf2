-- Several views of the program over one backing.
use Rattle.std.specs.Prelude.{ℕ, ◌≡◌, ℤ}
use Rattle.zf_base.specs.Formats.{Format}
use Rattle.zf_cache.specs.Standing.{Fits}
use Rattle.zf_cached.specs.Views.{Views, AreAlike, state_of_view}
use Rattle.zf_private.specs.Standing.{Held, Own, IsOver, HasPlaces, IsWhole, state}

module _ {X Code : Type 0} (value : X → ℤ) where
  -- views of their own blocks, each of which fits the codes
  pub record AreReady (d : ℕ) (views : ℕ → Held X) (format : Format Code) (codes : ℕ → Code) : Type 0 where
    pub whole : (i : ℕ) → IsWhole d (views i)
    pub fits : (i : ℕ) → Fits value (views i).cache format codes
    pub apart : (i j b : ℕ) → Own (views i) b → Own (views j) b → i ≡ j

  -- they and the codes stand for these
  pub record StandFor (views : ℕ → Held X) (format : Format Code)
      (codes : ℕ → Code) (s : Views Code) : Type 0 where
    pub same_codes : (b : ℕ) → codes b ≡ s.codes b
    pub alike : (i : ℕ) → AreAlike (Own (views i)) (state value (views i) format codes) (state_of_view s i)

  -- a view of its own blocks that fits the codes of an array, block by block and place by place
  pub record IsReady (d : ℕ) (v : Held X) (format : Format Code) (codes : ℕ → Code) : Type 0 where
    pub whole : IsWhole d v
    pub fits : Fits value v.cache format codes
    pub over : IsOver v format
    pub places : HasPlaces v format
