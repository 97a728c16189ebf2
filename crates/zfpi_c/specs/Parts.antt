-- How the calls on parts of a stream end.
use Rattle.std.specs.Prelude.{ℕ, ◌≡◌, ◌≢◌, ◌*◌, ◌^◌, ◌<◌, ◌≤◌, ℤ, List, [], ◌∷◌, ◌++◌, length, take, drop}
use Rattle.std.specs.Prelude.{All, slice_index_or, None, IsSome, Err}
use Rattle.std.specs.Int.{byte_len}
use Rattle.zf_spec.specs.Grid.{product, blocks}
use Rattle.zf_spec.specs.Stream.{raw, values_from}
use Rattle.zf_base.specs.Widths.{width_of}
use Rattle.zf_cached.specs.Windows.{Window, LiesIn}
use Rattle.zf_window.specs.WindowFields.{view_fault}
use Rattle.zf_header.specs.declared.header.Header.{Header}
use Rattle.zf_header.specs.HeaderBits.{IsRate}
use Rattle.zf_header.specs.HeaderFaults.{header_fault}
use Rattle.zf_part.specs.Blocks.{AreBlocksOf, IsWritten}
use Rattle.zf_part.specs.Places.{ArePlacesOf}
use Rattle.zf_part.specs.Windows.{IsWindowOf}
use Rattle.zfpi_c.specs.declared.parts.Axes.{Axes}
use Rattle.zfpi_c.specs.declared.status.Status.{Status}
use Rattle.zfpi_c.specs.declared.status.Status.TheVariants as statuses
use Rattle.zfpi_c.specs.Fields.{restore_stated}
use Rattle.zfpi_c.specs.Statuses.{code_of}

-- such bytes stand over the start of what was there before, and all behind them stays
pub record Wrote (Is : List ℕ → Type 0) (before now : List ℕ) : Type 0 where
  pub text : List ℕ
  pub is : Is text
  pub written : now ≡ text ++ drop (length text) before

-- how a call ends that reads a part: 0 where such bytes were written, else the number of a status that holds,
-- and nothing was written
pub record EndsPart (Is : List ℕ → Type 0) (Holds : Status → Type 0) (before now : List ℕ) (code : ℕ)
    : Type 0 where
  pub ok : code ≡ 0 → Wrote Is before now
  pub err : code ≢ 0 → (status : Status) × (code ≡ code_of status) × Holds status × (now ≡ before)

-- why a part is not read: there was no memory, the bytes begin with no header, the array has no such part, or it
-- has more bytes than there is room for; else the stream is refused for this reason
abbrev pub Lacks : List ℕ → Type 0 → ℕ → ℕ → Status → Type 0
Lacks stream Missing needed room statuses.Memory = Unit {0}
Lacks stream Missing needed room statuses.Header = IsSome (header_fault stream)
Lacks stream Missing needed room statuses.Part = (header_fault stream ≡ None) × Missing
Lacks stream Missing needed room statuses.Room = (header_fault stream ≡ None) × (room < needed)
Lacks stream Missing needed room status = restore_stated stream ≡ Err status

-- ---- blocks

-- one of these is no block of the array
pub record IsMissing (ns list : List ℕ) : Type 0 where
  pub k : ℕ
  pub listed : k < length list
  pub past : blocks ns ≤ slice_index_or list k 0

-- how many raw bytes a block has
abbrev pub block_bytes : Header → ℕ
block_bytes h = 4 ^ length h.shape * byte_len (width_of h.ty)

-- these are the raw bytes of the blocks of a list, which are all blocks of the array
pub record ReadsBlocks (h : Header) (stream list text : List ℕ) : Type 0 where
  pub there : All (λ b. b < blocks h.shape) list
  pub values : List ℤ
  pub are : AreBlocksOf stream h list values
  pub bytes : text ≡ raw (width_of h.ty) values

abbrev pub LacksBlocks : Header → List ℕ → List ℕ → ℕ → Status → Type 0
LacksBlocks h stream list room =
    Lacks stream (IsMissing h.shape list) (length list * block_bytes h) room

-- ---- windows

abbrev pub numbers : Axes → List ℕ
numbers p = p.x ∷ p.y ∷ p.z ∷ p.w ∷ []

-- the window of an array of these sizes that is asked for, with steps of 1
abbrev pub asked : List ℕ → Axes → Axes → Window
asked ns origin size = record {
  origin = take (length ns) (numbers origin);
  size = take (length ns) (numbers size);
  step = take (length ns) (1 ∷ 1 ∷ 1 ∷ 1 ∷ []);
}

-- these are the raw bytes of a window, which lies in the array
pub record ReadsWindow (h : Header) (stream : List ℕ) (w : Window) (text : List ℕ) : Type 0 where
  pub lies : LiesIn h.shape w
  pub values : List ℤ
  pub are : IsWindowOf stream h w values
  pub bytes : text ≡ raw (width_of h.ty) values

abbrev pub LacksWindow : Header → List ℕ → Window → ℕ → Status → Type 0
LacksWindow h stream w room =
    Lacks stream (IsSome (view_fault h.shape w)) (product w.size * byte_len (width_of h.ty)) room

-- ---- over an index

-- these are the places of the blocks of a stream, one of each and no more
pub record WritesIndex (h : Header) (stream text : List ℕ) : Type 0 where
  pub count : length text ≡ blocks h.shape
  pub are : ArePlacesOf stream h text

-- so many bytes of a part that lies in the array, which are its own where the places are those of the stream
pub record ReadsOver (Right Lies : Type 0) (Is : List ℕ → Type 0) (count : ℕ) (text : List ℕ) : Type 0 where
  pub lies : Lies
  pub count_is : length text ≡ count
  pub are : Right → Is text

-- why a part is not read: nothing of the stream is looked at but what is read, so it is not refused as a whole; but
-- where the places are not those of the stream, that may be seen
abbrev pub LacksOver : Type 0 → List ℕ → Type 0 → ℕ → ℕ → Status → Type 0
LacksOver Right stream Missing needed room statuses.Memory = Unit {0}
LacksOver Right stream Missing needed room statuses.Header = IsSome (header_fault stream)
LacksOver Right stream Missing needed room statuses.Part = (header_fault stream ≡ None) × Missing
LacksOver Right stream Missing needed room statuses.Room = (header_fault stream ≡ None) × (room < needed)
LacksOver Right stream Missing needed room statuses.Index = (header_fault stream ≡ None) × (Right → ⊥)
LacksOver Right stream Missing needed room status = ⊥

abbrev pub ReadsBlocksAt : Header → List ℕ → List ℕ → List ℕ → List ℕ → Type 0
ReadsBlocksAt h stream places list = ReadsOver (ArePlacesOf stream h places) (All (λ b. b < blocks h.shape) list)
    (ReadsBlocks h stream list) (length list * block_bytes h)

abbrev pub LacksBlocksAt : Header → List ℕ → List ℕ → List ℕ → ℕ → Status → Type 0
LacksBlocksAt h stream places list room =
    LacksOver (ArePlacesOf stream h places) stream (IsMissing h.shape list) (length list * block_bytes h) room

-- how many raw bytes a window has
abbrev pub window_bytes : Header → Window → ℕ
window_bytes h w = product w.size * byte_len (width_of h.ty)

abbrev pub ReadsWindowAt : Header → List ℕ → List ℕ → Window → List ℕ → Type 0
ReadsWindowAt h stream places w = ReadsOver (ArePlacesOf stream h places) (LiesIn h.shape w) (ReadsWindow h stream w)
    (window_bytes h w)

abbrev pub LacksWindowAt : Header → List ℕ → List ℕ → Window → ℕ → Status → Type 0
LacksWindowAt h stream places w room =
    LacksOver (ArePlacesOf stream h places) stream (IsSome (view_fault h.shape w)) (window_bytes h w) room

-- ---- a block that is written

-- the values of a block that these raw bytes are
abbrev pub block_of_raw : Header → List ℕ → List ℤ
block_of_raw h bytes = values_from (width_of h.ty) (4 ^ length h.shape) bytes

-- why it is not written: the mode is no rate, or there are fewer or more raw bytes than a block has; else why
-- it would not be read
abbrev pub LacksWrite : Header → List ℕ → ℕ → ℕ → Status → Type 0
LacksWrite h stream b len statuses.Mode = (header_fault stream ≡ None) × (IsRate h.mode → ⊥)
LacksWrite h stream b len statuses.RawShort = (header_fault stream ≡ None) × (len < block_bytes h)
LacksWrite h stream b len statuses.RawLong = (header_fault stream ≡ None) × (block_bytes h < len)
LacksWrite h stream b len status = Lacks stream (blocks h.shape ≤ b) 0 0 status

-- how a call ends that writes a block: 0 where it did, else the number of a status that holds, and the stream is
-- as before
pub record EndsWrite (h : Header) (old new : List ℕ) (b : ℕ) (bytes : List ℕ) (code : ℕ) : Type 0 where
  pub ok : code ≡ 0 → IsWritten old new h b (block_of_raw h bytes)
  pub err : code ≢ 0 → (status : Status) × (code ≡ code_of status)
      × LacksWrite h old b (length bytes) status × (new ≡ old)
