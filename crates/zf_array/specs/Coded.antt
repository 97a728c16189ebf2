-- An array as a list of codes that others read and write, while no block is in any of its lines.
use Rattle.std.specs.Prelude.{ℕ, ◌≡◌, None}
use Rattle.std.specs.Borrow.{GName, MutBor}
use Rattle.zf_header.specs.declared.header.Header.{Header}
use Rattle.zf_cached.specs.State.{Counts}
unfoldable pub use Rattle.zf_cached.specs.Splits.{coded}
use Rattle.zf_array.specs.Standing.{Held, format, state}

-- no block is in any line
abbrev pub HasEmptyLines : Held → Type 0
HasEmptyLines a = (l : ℕ) → (state a).held l ≡ None

-- the array stands for its codes alone
abbrev pub IsCoded : Held → Type 0
IsCoded a = state a ≡ coded (format a) (state a) (state a).codes

-- what no load and no store of codes changes: which array it is, its header, the number of its lines and its
-- counts
pub record Frame : Type 0 where
  pub name : GName
  pub header : Header
  pub lines : ℕ
  pub counts : Counts

abbrev pub frame_of : MutBor Held → Frame
frame_of a = record {
  name = a.ghost_name;
  header = a.now.header;
  lines = (state a.now).lines;
  counts =
      (state a.now).counts;
}
