-- What holds of the parts of an array: of its codes, which stand in a stream, and of the cache over them.
use Rattle.std.specs.Prelude.{ℕ, ◌≡◌, ◌+◌, ◌*◌, ◌≤◌, ℤ, Bool, List, map, length}
use Rattle.std.specs.Int.{Width}
use Rattle.zf_spec.specs.Grid.{blocks}
use Rattle.zf_spec.specs.Stream.{to_bits}
use Rattle.zf_base.specs.Widths.{width_of}
use Rattle.zf_base.specs.Formats.{Format}
use Rattle.zf_header.specs.declared.header.Header.{Header}
use Rattle.zf_header.specs.HeaderBits.{IsHeader}
use Rattle.zf_parse.specs.Parsing.{longest_code}
use Rattle.zf_cached.specs.Arrays.{array_format}
use Rattle.zf_cache.specs.Kept.{Kept, IsClean, block_in}
use Rattle.zf_cache.specs.Standing.{Fits}
use Rattle.zf_index.specs.Spans as spans
use Rattle.zf_index.specs.Spans.{place, codes_in}
use Rattle.zf_index.specs.Files.{AreRead}
use Rattle.zf_const.specs.declared.index.Index.{Index}
use Rattle.zf_const.specs.declared.index.Index.TheVariants.{Verbatim, Chunked}
use Rattle.zf_const.specs.Standing.{Held, coding_of, code_of}

-- either index as an index
abbrev pub seen : Index → spans.Index
seen (Verbatim i) = i
seen (Chunked i) = i

-- the codes of a stream with their header
pub record Coded : Type 0 where
  pub header : Header
  pub codes : List (List Bool)

-- the code of block b
abbrev pub code_at : Coded → ℕ → List Bool
code_at s b = code_of s.header s.codes b

-- what never changes about the codes
abbrev pub format_of : Coded → Format (List Bool)
format_of s = array_format (coding_of s.header) s.header.shape

-- the codes that an index finds in a file
abbrev pub coded_by : Header → List ℕ → Index → Coded
coded_by h file i = record { header = h; codes = codes_in (seen i) (to_bits file) }

-- values of this width in d dimensions; each block has a code in the file, which is read where the index
-- says, and there is room for the longest in so many words
pub record IsCoded (w : Width) (d : ℕ) (h : Header) (file : List ℕ) (i : spans.Index) (room : ℕ) : Type 0
  where
    pub same_type : w ≡ width_of h.ty
    pub dims : length h.shape ≡ d
    pub header : IsHeader h
    pub count : length i.lens ≡ blocks h.shape
    pub read : AreRead h i (to_bits file)
    pub within : place i (length i.lens) ≤ 8 * length file
    pub room_is : longest_code h + 128 ≤ 64 * room

module _ {X : Type 0} (value : X → ℤ) where
  -- what codes and a cache over them are seen as
  abbrev pub held_by : Coded → Kept X → Held
  held_by s c = record { header = s.header; codes = s.codes; lines = map block_in c.tags; counts = c.counts }

  -- values of this width in d dimensions, and a code for each block; the cache fits them, and nothing is
  -- dirty
  pub record IsJoined (w : Width) (d : ℕ) (s : Coded) (c : Kept X) : Type 0 where
    pub same_type : w ≡ width_of s.header.ty
    pub dims : length s.header.shape ≡ d
    pub header : IsHeader s.header
    pub count : length s.codes ≡ blocks s.header.shape
    pub fits : Fits value c (format_of s) (code_at s)
    pub clean : IsClean c
