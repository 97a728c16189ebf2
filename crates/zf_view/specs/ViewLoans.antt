-- What a view is once a loan of its array has ended.
use Rattle.std.specs.Prelude.{◌≡◌, ℕ, List, [], map, ⊤}
use Rattle.std.specs.Borrow.{Fml, RattleType, MutBor, Array, Lends, follows, follows_so}
use mathlib.Core.Option.{none}
use mir.Syntax.{named, w64}
use mir.Val.{number_of}
use denote.Memory.{lone}
use Rattle.std.specs.declared.cmp.PartialEq as PartialEq
use Rattle.zf_base.specs.declared.lane.Lane as Lane
use Rattle.zf_base.specs.declared.position.Pos.{Pos}
use Rattle.zf_lines.specs.Rows.{over}
use Rattle.zf_array.specs.Standing.{Held}
use Rattle.zf_array.specs.Loans.{with_value}
use Rattle.zf_array.specs.contracts.array.Array as array
use Rattle.zf_const.specs.Standing as const
use Rattle.zf_window.specs.Positions.{position_at}
use Rattle.zf_view.specs.Runs.{with_run, with_touch}
use Rattle.zf_view.specs.declared.const_view.ConstView.{ConstView}
use Rattle.zf_view.specs.declared.view.View.{View}
use Rattle.zf_view.specs.declared.view.ElemMut.{ElemMut}
use Rattle.zf_view.specs.contracts.const_view.ConstView as const_view
use Rattle.zf_view.specs.contracts.view.View as view
use Rattle.zf_view.specs.contracts.view.ElemMut as elem

module _ {X : Type 0} {n : ℕ} where
  -- the view v with this array behind it
  abbrev pub view_of : View X n → Held → View X n
  view_of v a = record v { array = record v.array { now = a } }

  -- the view v of a read-only array with this one behind it
  abbrev pub const_view_of : ConstView X n → const.Held → ConstView X n
  const_view_of v a = record v { array = record v.array { now = a } }

  -- the element e with this array behind it
  abbrev pub elem_of : ElemMut X n → Held → ElemMut X n
  elem_of e a = record e { array = record e.array { now = a } }

module _ (R D : RattleType) (lane : Lane.Ghosts R.Denot) (eq : PartialEq.Ghosts R.Denot) where
  -- the array behind v is the last one behind r. Its lifetime is the second of the signature
  abbrev pub EndsWithArray : MutBor (View R.Denot (number_of w64 (lone D.mir))) → MutBor Held → Fml
  EndsWithArray v r = follows (view.the_row (record { mir = named 1; lft = [] }) R D lane eq)
      (array.the_row R D lane eq) v.ghost_name r.ghost_name (view_of v.now)

  -- a loan for reading leaves the array touched at position p of the view
  abbrev pub EndsTouched : MutBor (View R.Denot (number_of w64 (lone D.mir))) → Pos → Fml
  EndsTouched v p =
      follows_so (view.the_row (record { mir = named 1; lft = [] }) R D lane eq)
      (view.the_row (record { mir = named 1; lft = [] }) R D lane eq) v.ghost_name none (λ _ _. ⊤)
      (λ e. e ≡ view_of v.now (with_touch v.now.array.now (position_at v.now.window p)))

  -- so does one of a view of a read-only array
  abbrev pub EndsConstTouched : MutBor (ConstView R.Denot (number_of w64 (lone D.mir))) → Pos → Fml
  EndsConstTouched v p =
      let a = v.now.array.now in
      follows_so (const_view.the_row (record { mir = named 1; lft = [] }) R D lane eq)
      (const_view.the_row (record { mir = named 1; lft = [] }) R D lane eq) v.ghost_name none (λ _ _. ⊤)
      (λ e. e ≡ const_view_of v.now (const.touched a (const.block_at a (position_at v.now.window p))))

  -- the values from position p of the view on are the last ones written through r
  abbrev pub EndsWithRun : MutBor (View R.Denot (number_of w64 (lone D.mir))) → Pos → MutBor (List R.Denot)
      → Fml
  EndsWithRun v p r =
      Lends (view.the_row (record { mir = named 1; lft = [] }) R D lane eq) (Array R 0) v r
      (λ ws. view_of v.now
      (with_run v.now.array.now (position_at v.now.window p) (map lane.value (over r.now ws))))

  -- the value of the element e is the last one written through r
  abbrev pub EndsWithValue : MutBor (ElemMut R.Denot (number_of w64 (lone D.mir))) → MutBor R.Denot → Fml
  EndsWithValue e r =
      Lends (elem.the_row (record { mir = named 1; lft = [] }) R D lane eq) R e r
      (λ v. elem_of e.now (with_value e.now.array.now e.now.position (lane.value v)))
