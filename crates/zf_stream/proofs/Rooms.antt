-- The room that an array is compressed in, and the one that a stream is restored in, as they are used.
use Rattle.std.{proofs.Common.{rules, ◌≡◌, sym, ◌∙◌, ℕ, ◌≤◌, List, length, arith}, specs.Int.{Width}}
use Rattle.std.specs.declared.cmp.PartialEq.{Ghosts as PartialEq}
use Rattle.zf_base.specs.declared.lane.Lane.{Ghosts as Lane}
use Rattle.zf_header.specs.declared.header.Header.{Header}
use Rattle.zf_dev.specs.declared.source.Source.{Ghosts as Source}
use Rattle.zf_stream.{specs.declared.room.Room.{Room}, specs.declared.restore_room.RestoreRoom.{RestoreRoom}}
use Rattle.zf_stream.{specs.Windows.{KnowsEnd}, proofs.Slabwise.{with_shape, longest_part}}
use Rattle.zf_stream.specs.Rooms.{IsRoomFor, IsRoomOf, Keeps, CanRestore, CanRestoreAll, Stays}

module _ {X : Type 0} {l : Lane X} {e : PartialEq X} where
  pub Keeps-next : {a b c : Room X l e} → Keeps a b → Keeps b c → Keeps a c
  Keeps-next {a} {b} {c} first next = search rules

  -- it is kept room for the array
  pub room_kept : {h : Header} {a b : Room X l e} → IsRoomFor h a → Keeps a b → IsRoomFor h b
  room_kept {h} {a} {b} room keeps = record { dims = keeps.dims ∙ room.dims; fits = omega (arith, room.fits, keeps.most, keeps.room) }

  pub array_kept : {w : Width} {h : Header} {n m : ℕ} {a b : Room X l e} → IsRoomOf w h n a → Keeps a b → m ≡ n → IsRoomOf w h m b
  array_kept {w} {h} {n} {m} {a} {b} room keeps same = search (rules, room_kept)

  -- and is room for some rows of it
  pub room_part : {h : Header} {room : Room X l e} (shape : List ℕ) → length shape ≡ length h.shape → IsRoomFor h room → IsRoomFor (with_shape h shape) room
  room_part {h} {room} shape same fits = record { dims = fits.dims ∙ sym same; fits = omega (arith, fits.fits, longest_part h shape same) }

  -- ---- restoring

  pub Stays-none : (room : RestoreRoom X l e) → Stays room room
  Stays-none room = search rules

  pub Stays-next : {a b c : RestoreRoom X l e} → Stays a b → Stays b c → Stays a c
  Stays-next {a} {b} {c} first next = search rules

  -- it still is one that the array can be restored in
  pub still_restores : {A : Type 0} {S : Source A} {h : Header} {count : ℕ} {src now : A} {a b : RestoreRoom X l e} → CanRestore h count S src a → Stays a b → KnowsEnd S b.window now → CanRestore h count S now b
  still_restores {A} {S} {h} {count} {src} {now} {a} {b} can stays ended = search rules

  pub still_restores_all : {A : Type 0} {S : Source A} {w : Width} {h : Header} {src now : A} {a b : RestoreRoom X l e} → CanRestoreAll w h S src a → Stays a b → KnowsEnd S b.window now → CanRestoreAll w h S now b
  still_restores_all {A} {S} {w} {h} {src} {now} {a} {b} can stays ended = search (rules, still_restores)

  -- and so can some rows of it
  pub restores_part : {A : Type 0} {S : Source A} {h : Header} {count : ℕ} {src : A} {room : RestoreRoom X l e} (shape : List ℕ) (few : ℕ) → length shape ≡ length h.shape → few ≤ count → CanRestore h count S src room → CanRestore (with_shape h shape) few S src room
  restores_part {A} {S} {h} {count} {src} {room} shape few same fewer can = search (rules, longest_part)
