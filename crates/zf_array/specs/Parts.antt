-- What holds of the parts of an array.
use Rattle.std.specs.Prelude.{ℕ, ◌≡◌, ℤ, length}
use Rattle.std.specs.Int.{Width}
use Rattle.zf_spec.specs.Grid.{IsShape, blocks}
use Rattle.zf_base.specs.Widths.{width_of}
use Rattle.zf_header.specs.HeaderBits.{IsRate, rate_bytes_of}
use Rattle.zf_cache.specs.Kept.{Kept}
use Rattle.zf_cache.specs.Standing.{state_of, Fits}
use Rattle.zf_store.specs.Stored.{Stored, code_at, format_of}
use Rattle.zf_array.specs.Standing.{Held, array_of}

module _ {X : Type 0} (value : X → ℤ) where
  -- what a store and a cache over it are seen as
  abbrev pub held_by : Stored → Kept X → Held
  held_by s c = array_of s.header (state_of value c (format_of s) (code_at s))

  -- values of this width in d dimensions, at a rate; a code for each block; the cache fits the store, and the
  -- buffer has room for the file
  pub record IsJoined (w : Width) (d : ℕ) (s : Stored) (c : Kept X) (room : ℕ) : Type 0 where
    pub same_type : w ≡ width_of s.header.ty
    pub dims : length s.header.shape ≡ d
    pub shape : IsShape s.header.shape
    pub rate : IsRate s.header.mode
    pub count : length s.codes ≡ blocks s.header.shape
    pub fits : Fits value c (format_of s) (code_at s)
    pub room_is : room ≡ rate_bytes_of s.header
