-- What holds of the fields of `Lines`.
use Rattle.std.specs.Prelude.{◌≡◌, ℕ, ◌*◌, ◌^◌, ◌<◌, ◌≤◌, length}
use Rattle.std.specs.declared.alloc.Global.{Global}
use Rattle.zf_lines.specs.Places.{IsFront}
use Rattle.zf_lines.specs.declared.cells.Base.{Base}
use Rattle.zf_lines.specs.declared.cells.Cells.{Cells}
use Rattle.zf_lines.specs.declared.cells.Deed.{Deed}

-- the first `written` blocks hold values, and the allocation is the lines' own
pub record IsFilled {X : Type 0} (base : Base X) (lines written len : ℕ) (cells : Cells X)
    (deed : Deed X Global) (alloc : Global) : Type 0 where
  pub own : (cells.at ≡ base.ptr) × (deed.at ≡ base.ptr) × (deed.len ≡ lines * len) × (deed.alloc ≡ alloc)
  pub front : IsFront cells.slots (written * len)
  pub few : written ≤ lines
  pub size : length cells.slots ≡ lines * len
  pub small : (lines * len < 2 ^ 63) × (lines ≤ 2 ^ 16)
