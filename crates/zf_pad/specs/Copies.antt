-- What is copied between a list of values and a block of which an extent exists.
use Rattle.std.specs.Prelude.{ℕ, ◌+◌, ◌<◌, ◌≡◌, ◌≢◌, ℤ, pos, List, length, slice_index_or}
use Rattle.zf_base.specs.declared.position.Extent.{Extent}
use Rattle.zf_pad.specs.declared.layout.Layout.{Layout}
use Rattle.zf_pad.specs.Layouts.{HasPlace, index_at, place_at}

-- a gather: the places that exist have the values, the other places stay
pub record IsGathered (layout : Layout) (e : Extent) (values old new : List ℤ) : Type 0 where
  pub existing : (p : ℕ) → HasPlace e p → slice_index_or new p (pos 0)
      ≡ slice_index_or values (index_at layout e p) (pos 0)
  pub others : (p : ℕ) → ¬ HasPlace e p → slice_index_or new p (pos 0) ≡ slice_index_or old p (pos 0)

-- a scatter: the values of the places that exist come from the block, all other values stay
pub record IsScattered (layout : Layout) (e : Extent) (block old new : List ℤ) : Type 0 where
  pub existing : (p : ℕ) → HasPlace e p → slice_index_or new (index_at layout e p) (pos 0)
      ≡ slice_index_or block p (pos 0)
  pub others : (i : ℕ) → ((p : ℕ) → HasPlace e p → index_at layout e p ≢ i) → slice_index_or new i (pos 0)
      ≡ slice_index_or old i (pos 0)

-- the values at the places that exist were copied from where one layout puts them to where another does, all other
-- values stay
pub record IsCopied (e : Extent) (from to : Layout) (source old new : List ℤ) : Type 0 where
  pub existing : (p : ℕ) → HasPlace e p → slice_index_or new (place_at to p) (pos 0)
      ≡ slice_index_or source (place_at from p) (pos 0)
  pub others : (i : ℕ) → ((p : ℕ) → HasPlace e p → place_at to p ≢ i) → slice_index_or new i (pos 0)
      ≡ slice_index_or old i (pos 0)

-- so many values that stand beside one another were copied, all others stay
pub record IsRunCopied (len from to : ℕ) (source old new : List ℤ) : Type 0 where
  pub long : length new ≡ length old
  pub run : (k : ℕ) → k < len → slice_index_or new (to + k) (pos 0) ≡ slice_index_or source (from + k) (pos 0)
  pub others : (i : ℕ) → ((k : ℕ) → k < len → i ≢ to + k) → slice_index_or new i (pos 0) ≡ slice_index_or old i (pos 0)
