-- What a call of a view needs of its window, and what it keeps of the array behind it.
use Rattle.std.specs.Prelude.{◌≡◌, ℕ, List}
use Rattle.std.specs.Borrow.{MutBor}
use Rattle.zf_base.specs.declared.position.Pos.{Pos}
use Rattle.zf_base.specs.Positions.{IsPosition}
use Rattle.zf_cached.specs.Windows.{Window, LiesIn}
use Rattle.zf_view.specs.declared.const_view.ConstView.{ConstView}
use Rattle.zf_view.specs.declared.view.View.{View}
use Rattle.zf_view.specs.declared.view.ElemMut.{ElemMut}

-- the window lies in an array of these sizes, and position p in the window
pub record LiesAt (ns : List ℕ) (w : Window) (p : Pos) : Type 0 where
  pub lies : LiesIn ns w
  pub position : IsPosition w.size p

-- the array that is borrowed again is the same one, as it was
pub record SameArray {A : Type 0} (array again : MutBor A) : Type 0 where
  pub name : again.ghost_name ≡ array.ghost_name
  pub value : again.now ≡ array.now

module _ {X : Type 0} {n : ℕ} where
  -- a view of the same array through the same window
  pub record KeepsView (v new : View X n) : Type 0 where
    pub same_array : new.array.ghost_name ≡ v.array.ghost_name
    pub window : new.window ≡ v.window
    pub header : new.array.now.header ≡ v.array.now.header

  -- an element of the same array at the same position
  pub record KeepsElem (e new : ElemMut X n) : Type 0 where
    pub same_array : new.array.ghost_name ≡ e.array.ghost_name
    pub position : new.position ≡ e.position
    pub header : new.array.now.header ≡ e.array.now.header

  -- a view of the same array, whose codes stay, through the same window
  pub record KeepsConstView (v new : ConstView X n) : Type 0 where
    pub same_array : new.array.ghost_name ≡ v.array.ghost_name
    pub window : new.window ≡ v.window
    pub header : new.array.now.header ≡ v.array.now.header
    pub codes : new.array.now.codes ≡ v.array.now.codes
