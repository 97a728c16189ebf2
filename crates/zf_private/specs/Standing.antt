-- What a view of the program is seen as, and when it and a backing fit.
use Rattle.std.specs.Prelude.{ℕ, ◌≡◌, ◌+◌, ◌^◌, ◌<◌, ◌≤◌, ℤ, List, length, Some, refl}
use Rattle.std.specs.Coded.{Coded, code_by, coded×, coded_list, coded_ℕ}
use Rattle.zf_spec.specs.Grid.{IsShape, blocks, is_inside, indices, extent_of}
use Rattle.zf_base.specs.declared.position.Pos.{Pos}
use Rattle.zf_base.specs.Positions.{used_axes}
use Rattle.zf_base.specs.Places.{block_number, place_of}
use Rattle.zf_base.specs.Formats.{Format}
use Rattle.zf_cached.specs.State.{State}
use Rattle.zf_cache.specs.Kept.{Kept, kept_code, tag_at, block_in}
use Rattle.zf_cache.specs.Standing.{state_of}
use Rattle.zf_cached.specs.Ownership.{Owns}

-- a cache; the sizes of the array; the first of the owned blocks, and how many there are
pub record Held (X : Type 0) : Type 0 where
  pub cache : Kept X
  pub shape : List ℕ
  pub first : ℕ
  pub count : ℕ

abbrev pub held_code : {X : Type 0} → Coded X → Coded (Held X)
held_code {X} c =
    code_by (Kept X × (List ℕ × (ℕ × ℕ)))
    (coded× (kept_code c) (coded× (coded_list coded_ℕ) (coded× coded_ℕ coded_ℕ)))
    (λ h. (h.cache, (h.shape, (h.first, h.count))))
    (λ p. record { cache = p.0; shape = p.1.0; first = p.1.1.0; count = p.1.1.1 }) (λ _. refl)

module _ {X : Type 0} where
  -- block b is one of the view's
  abbrev pub Own : Held X → ℕ → Type 0
  Own v b = Owns v.first v.count b

  -- the block of a position, and its place there
  abbrev pub block_at : Held X → Pos → ℕ
  block_at v p = block_number v.shape (used_axes (length v.shape) p)

  abbrev pub place_at : Held X → Pos → ℕ
  place_at v p = place_of (used_axes (length v.shape) p)

  -- the state that a view stands for, with these codes under it
  abbrev pub state : (X → ℤ) → Held X → {Code : Type 0} → Format Code → (ℕ → Code) → State Code
  state value v format codes = state_of value v.cache format codes

  -- the backing has as many blocks as the array, each of 4^d places
  abbrev pub IsOver : Held X → {Code : Type 0} → Format Code → Type 0
  IsOver v format = (format.blocks ≡ blocks v.shape) × (format.block_len ≡ 4 ^ length v.shape)

  -- the places that exist in the owned blocks are those of the array
  abbrev pub HasPlaces : Held X → {Code : Type 0} → Format Code → Type 0
  HasPlaces v format = (b p : ℕ) → Own v b → p < 4 ^ length v.shape → format.exists b p
      ≡ is_inside (extent_of v.shape b) (indices (length v.shape) p)

  -- the same view of the same blocks, whatever is in its lines
  pub record IsSameView (v w : Held X) : Type 0 where
    pub shape : w.shape ≡ v.shape
    pub first : w.first ≡ v.first
    pub count : w.count ≡ v.count

  -- the owned blocks are some of the array's, and no other is in a line
  pub record IsWhole (d : ℕ) (v : Held X) : Type 0 where
    pub dims : length v.shape ≡ d
    pub shape : IsShape v.shape
    pub some : 1 ≤ v.count
    pub inside : v.first + v.count ≤ blocks v.shape
    pub own : (l b : ℕ) → block_in (tag_at v.cache.tags l) ≡ Some b → Own v b
