-- What a store is seen as: the header of its file, and the code of each block.
use Rattle.std.specs.Prelude.{ℕ, ◌≡◌, ◌<◌, Bool, false, List, length, replicate, slice_index_or}
use Rattle.std.specs.Int.{Width}
use Rattle.zf_spec.specs.Grid.{IsShape, blocks}
use Rattle.zf_spec.specs.Stream.{file}
use Rattle.zf_base.specs.Widths.{width_of}
use Rattle.zf_base.specs.Formats.{Format}
use Rattle.zf_base.specs.declared.lane.Ty.{Ty}
use Rattle.zf_header.specs.declared.header.Header.{Header}
use Rattle.zf_header.specs.declared.header.Mode.TheVariants.{Rate}
use Rattle.zf_header.specs.HeaderBits.{IsRate, coding, block_bits}
use Rattle.zf_cached.specs.Arrays.{rate_coding, array_format, zero_codes}

pub record Stored : Type 0 where
  pub header : Header
  pub codes : List (List Bool)

-- what no load and no store changes: the header, and how many codes there are
pub record Frame : Type 0 where
  pub header : Header
  pub count : ℕ

abbrev pub frame_of : Stored → Frame
frame_of s = record { header = s.header; count = length s.codes }

-- how many bits each code has
abbrev pub rate_of : Stored → ℕ
rate_of s = block_bits s.header.mode

-- the code of block b; that of a number that is no block's is the code of zeros
abbrev pub code_at : Stored → ℕ → List Bool
code_at s b = slice_index_or s.codes b (replicate (rate_of s) false)

-- what never changes about the codes
abbrev pub format_of : Stored → Format (List Bool)
format_of s = array_format (rate_coding (width_of s.header.ty) (rate_of s)) s.header.shape

-- the file of the codes
abbrev pub file_of : Stored → List ℕ
file_of s = file (width_of s.header.ty) s.header.shape (coding s.header.mode) s.codes

-- values of this width in d dimensions, at a rate; a code for each block, and each of as many bits
pub record IsStore (w : Width) (d : ℕ) (s : Stored) : Type 0 where
  pub same_type : w ≡ width_of s.header.ty
  pub dims : length s.header.shape ≡ d
  pub shape : IsShape s.header.shape
  pub rate : IsRate s.header.mode
  pub count : length s.codes ≡ blocks s.header.shape
  pub bits : (b : ℕ) → b < blocks s.header.shape → length (code_at s b) ≡ rate_of s

-- zeros of this type and shape, at this rate
abbrev pub zeros : Ty → List ℕ → ℕ → Stored
zeros ty ns budget = record {
  header = record { ty = ty; shape = ns; mode = Rate budget };
  codes =
      zero_codes budget ns;
}
