-- A block of a stream: what its values are, and what a write leaves.
use Rattle.std.specs.Prelude.{ℕ, ◌≡◌, ◌≢◌, ◌<◌, ◌+◌, ◌*◌, ◌^◌, ℤ, pos, Bool, true, List, ◌++◌, length, take, drop}
use Rattle.std.specs.Prelude.{slice_index_or, slice_set, Ok}
use Rattle.std.specs.Int.{Width}
use Rattle.zf_spec.specs.Grid.{raster, is_inside, extent_of}
use Rattle.zf_spec.specs.Stream.{to_bits}
use Rattle.zf_spec.specs.Codes.{existing_values, rate, round}
use Rattle.zf_base.specs.Widths.{width_of}
use Rattle.zf_base.specs.Places.{block_number, place_of}
use Rattle.zf_header.specs.declared.header.Header.{Header}
use Rattle.zf_header.specs.HeaderBits.{header_bits, block_bits}
use Rattle.zf_parse.specs.Parsing.{Said, parse}
use Rattle.zf_index.specs.Files.{HasHeader}

-- bytes begin with this header, and their values have this width
pub record Holds (w : Width) (bytes : List ℕ) (h : Header) : Type 0 where
  pub header : HasHeader bytes h
  pub same_type : w ≡ width_of h.ty

-- these are positions of an array of this shape
pub record IsPosition (ns ps : List ℕ) : Type 0 where
  pub dims : length ps ≡ length ns
  pub inside : is_inside ns ps ≡ true

-- the value at a position, of all values of an array and of a block's
abbrev pub value_in : List ℕ → List ℤ → List ℕ → ℤ
value_in ns values ps = slice_index_or values (raster ns ps) (pos 0)

abbrev pub value_in_block : List ℤ → List ℕ → ℤ
value_in_block block ps = slice_index_or block (place_of ps) (pos 0)

-- the values of block b that exist are those that the stream says there, position by position
pub record IsBlockOf (bytes : List ℕ) (h : Header) (b : ℕ) (block : List ℤ) : Type 0 where
  pub said : Said
  pub parsed : parse bytes ≡ Ok said
  pub values : (ps : List ℕ) → IsPosition h.shape ps → block_number h.shape ps ≡ b
      → value_in_block (existing_values (extent_of h.shape b) block) ps ≡ value_in h.shape said.values ps

-- the values of the blocks of a list, one block behind the other
pub record AreBlocksOf (bytes : List ℕ) (h : Header) (list : List ℕ) (values : List ℤ) : Type 0 where
  pub count : length values ≡ length list * 4 ^ length h.shape
  pub blocks : (k : ℕ) → k < length list → IsBlockOf bytes h (slice_index_or list k 0)
      (take (4 ^ length h.shape) (drop (k * 4 ^ length h.shape) values))

-- where the code of block b begins in a stream of a rate
abbrev pub code_place : Header → ℕ → ℕ
code_place h b = length (header_bits h) + b * block_bits h.mode

-- the code of these values as block b
abbrev pub code_of : Header → ℕ → List ℤ → List Bool
code_of h b block = rate (width_of h.ty) (block_bits h.mode) (extent_of h.shape b) block

-- what is said is what was said before, but for the code of block b, which is now that of these values, and
-- for the values of that block, which are what the rate makes of these
pub record Replaces (h : Header) (b : ℕ) (block : List ℤ) (before after : Said) : Type 0 where
  pub header : after.header ≡ before.header
  pub codes : after.codes ≡ slice_set before.codes b (code_of h b block)
  pub count : length after.values ≡ length before.values
  pub values : (ps : List ℕ) → IsPosition h.shape ps → block_number h.shape ps ≡ b
      → value_in h.shape after.values ps
      ≡ value_in_block (round (width_of h.ty) (block_bits h.mode) (extent_of h.shape b) block) ps
  pub others : (ps : List ℕ) → IsPosition h.shape ps → block_number h.shape ps ≢ b
      → value_in h.shape after.values ps ≡ value_in h.shape before.values ps

-- the bits of code b are those of these values, and all other bits stayed; so the stream is still one
pub record IsWritten (old new : List ℕ) (h : Header) (b : ℕ) (block : List ℤ) : Type 0 where
  pub bits : to_bits new
      ≡ take (code_place h b) (to_bits old) ++ code_of h b block
      ++ drop (code_place h b + block_bits h.mode) (to_bits old)
  pub count : length new ≡ length old
  pub before : Said
  pub parsed_before : parse old ≡ Ok before
  pub after : Said
  pub parsed : parse new ≡ Ok after
  pub says : Replaces h b block before after
