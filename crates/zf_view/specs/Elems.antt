-- What an iterator over the values of a view keeps, and what its steps do.
use Rattle.std.specs.Prelude.{ℕ, ◌≡◌, ◌+◌, ◌<◌, ◌^◌, ℤ, Option, MatchOption}
use Rattle.std.specs.Iterator.{Count, at_most}
use Rattle.zf_spec.specs.Grid.{product}
use Rattle.zf_cached.specs.Windows.{LiesIn}
use Rattle.zf_array.specs.Standing.{state, shape}
use Rattle.zf_window.specs.Positions.{raster_at}
use Rattle.zf_view.specs.Touches.{touched_at, found_at}
use Rattle.zf_view.specs.declared.elems.ElemIter.{ElemIter}

module _ {X : Type 0} {n : ℕ} where
  -- the window lies in the array, and so many of its positions are left, the next one first
  pub record IsAtElem (it : ElemIter X n) : Type 0 where
    pub lies : LiesIn (shape it.array.now) it.walk.window
    pub few : product it.walk.window.size < 2 ^ 64
    pub left_is : it.walk.next + it.left ≡ product it.walk.window.size

  -- at most as many values come as there are positions left
  abbrev pub elems_left : ElemIter X n → Count
  elems_left it = at_most it.left

  -- a step from s to t gave the value v: the one that a touch at the next position finds; nothing else is
  -- touched
  pub record GivesElem (s t : ElemIter X n) (v : ℤ) : Type 0 where
    pub left : s.left ≡ t.left + 1
    pub walk : t.walk ≡ record s.walk { next = s.walk.next + 1 }
    pub same_array : t.array.ghost_name ≡ s.array.ghost_name
    pub header : t.array.now.header ≡ s.array.now.header
    pub touched : state t.array.now ≡ touched_at s.array.now (raster_at s.walk.window s.walk.next)
    pub found : v ≡ found_at s.array.now (raster_at s.walk.window s.walk.next)

  -- where no position is left, nothing is given and nothing is touched
  abbrev pub GivesElems : (X → ℤ) → ElemIter X n → Option X → ElemIter X n → Type 0
  GivesElems value s r t = MatchOption r ((s.left ≡ 0) × (t ≡ s)) (λ v. GivesElem s t (value v))
