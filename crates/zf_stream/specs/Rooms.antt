-- The room that an array is compressed in, and the one that a stream is restored in.
use Rattle.std.specs.Prelude.{ℕ, ◌≡◌, ◌+◌, ◌*◌, ◌≤◌, length}
use Rattle.std.specs.Int.{Width}
use Rattle.std.specs.declared.cmp.PartialEq.{Ghosts as PartialEq}
use Rattle.zf_base.specs.declared.lane.Lane.{Ghosts as Lane}
use Rattle.zf_base.specs.Widths.{width_of}
use Rattle.zf_pad.specs.Slabs.{row_len}
use Rattle.zf_header.specs.declared.header.Header.{Header}
use Rattle.zf_parse.specs.Parsing.{longest_code}
use Rattle.zf_dev.specs.declared.source.Source.{Ghosts as Source}
use Rattle.zf_stream.specs.Windows.{KnowsEnd}
use Rattle.zf_stream.specs.Rows.{ArePieces}
use Rattle.zf_stream.specs.declared.room.Room.{Room}
use Rattle.zf_stream.specs.declared.restore_room.RestoreRoom.{RestoreRoom}

-- it is one for arrays of as many dimensions, with room for a block's code more than are kept back, and for
-- the fill
pub record IsRoomFor {X : Type 0} {l : Lane X} {e : PartialEq X} (h : Header)
    (room : Room X l e) : Type 0 where
  pub dims : room.dims.count ≡ length h.shape
  pub fits : room.most + longest_code h + 64 ≤ length room.codes.bits + room.codes.room

-- with as many values beside it, it is one for this array of values of such a width
pub record IsRoomOf {X : Type 0} {l : Lane X} {e : PartialEq X} (w : Width) (h : Header) (count : ℕ)
    (room : Room X l e) : Type 0 where
  pub same_type : w ≡ width_of h.ty
  pub rows : ArePieces h.shape room.rows
  pub values : count ≡ row_len h.shape * room.rows
  pub codes : IsRoomFor h room

-- it is the same room, and codes have no less of it
pub record Keeps {X : Type 0} {l : Lane X} {e : PartialEq X} (old new : Room X l e) : Type 0 where
  pub rows : new.rows ≡ old.rows
  pub dims : new.dims.count ≡ old.dims.count
  pub most : new.most ≡ old.most
  pub room : length old.codes.bits + old.codes.room ≤ length new.codes.bits + new.codes.room

-- there is room for each code of an array, for the fill behind them, and for so many of its values, and it is
-- known where the source is at its end
pub record CanRestore {X A : Type 0} {l : Lane X} {e : PartialEq X} (h : Header) (count : ℕ) (S : Source A)
    (src : A) (room : RestoreRoom X l e) : Type 0 where
  pub longest : longest_code h ≤ room.longest
  pub held : room.longest + 64 ≤ 64 * room.window.room
  pub fill : 128 ≤ 64 * room.window.room
  pub values : count ≤ room.stored.room
  pub ended : KnowsEnd S room.window src

-- and for the values of the rows that are restored at a time, which have such a width
pub record CanRestoreAll {X A : Type 0} {l : Lane X} {e : PartialEq X} (w : Width) (h : Header) (S : Source A)
    (src : A) (room : RestoreRoom X l e) : Type 0 where
  pub same_type : w ≡ width_of h.ty
  pub rows : ArePieces h.shape room.rows
  pub codes : CanRestore h (row_len h.shape * room.rows) S src room

-- it is the same room, with no less of it for values
pub record Stays {X : Type 0} {l : Lane X} {e : PartialEq X} (old new : RestoreRoom X l e) : Type 0 where
  pub rows : new.rows ≡ old.rows
  pub longest : new.longest ≡ old.longest
  pub held : new.window.room ≡ old.window.room
  pub values : old.stored.room ≤ new.stored.room
