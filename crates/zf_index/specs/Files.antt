-- The index of a stream, and why there is none.
use Rattle.std.specs.Prelude.{ℕ, ◌≡◌, ◌<◌, ◌≤◌, ◌^◌, ℤ, Bool, List, [], map, length, drop, Option, Some, None}
use Rattle.std.specs.Prelude.{Ok}
use Rattle.zf_spec.specs.Grid.{upto, blocks, extent_of}
use Rattle.zf_spec.specs.Stream.{to_bits}
use Rattle.zf_base.specs.Widths.{width_of}
use Rattle.zf_header.specs.declared.header.Header.{Header}
use Rattle.zf_header.specs.HeaderBits.{header_bits}
use Rattle.zf_header.specs.HeaderFaults.{header_fault}
use Rattle.zf_parse.specs.declared.fault.StreamFault.{StreamFault}
use Rattle.zf_parse.specs.declared.fault.StreamFault.TheVariants as stream
use Rattle.zf_parse.specs.Parsing.{header_of, parse, read_code, values_of_blocks}
use Rattle.zf_index.specs.declared.fault.IndexFault.{IndexFault}
use Rattle.zf_index.specs.declared.fault.IndexFault.TheVariants.{Truncated, Pad, Trailing, Memory}
use Rattle.zf_index.specs.Spans.{Index, place, len_at, codes_in}

-- the bytes begin with this header
pub record HasHeader (bytes : List ℕ) (h : Header) : Type 0 where
  pub good : header_fault bytes ≡ None
  pub header : h ≡ header_of bytes

-- what is read of these bits where code b begins: its block and its length
abbrev pub found : Header → Index → List Bool → ℕ → Option (List ℤ × ℕ)
found h i s b = read_code (width_of h.ty) h.mode (extent_of h.shape b) (drop (place i b) s)

abbrev pub block_read : Option (List ℤ × ℕ) → List ℤ
block_read None = []
block_read (Some code) = code.0

abbrev pub len_read : Option (List ℤ × ℕ) → Option ℕ
len_read None = None
len_read (Some code) = Some code.1

-- each code is read where it begins, and is as long as is said
abbrev pub AreRead : Header → Index → List Bool → Type 0
AreRead h i s = (b : ℕ) → b < length i.lens → len_read (found h i s b) ≡ Some (len_at i b)

-- the blocks that are read
abbrev pub blocks_found : Header → Index → List Bool → List (List ℤ)
blocks_found h i s = map (λ b. block_read (found h i s b)) (upto (length i.lens))

-- an index of the codes of these bytes: the first code begins behind the header, and there is one for each
-- block; what the bytes say are the bits of the spans, as codes, and the blocks that are read there. A word
-- counts their bits
pub record IsIndexOf (bytes : List ℕ) (h : Header) (i : Index) : Type 0 where
  pub start : i.start ≡ length (header_bits h)
  pub count : length i.lens ≡ blocks h.shape
  pub said : parse bytes ≡ Ok
      (record {
        header = h;
        codes = codes_in i (to_bits bytes);
        values = values_of_blocks h.shape (blocks_found h i (to_bits bytes));
      })
  pub lens : map length (codes_in i (to_bits bytes)) ≡ i.lens
  pub read : AreRead h i (to_bits bytes)
  pub within : place i (length i.lens) ≤ length (to_bits bytes)
  pub small : length (to_bits bytes) < 2 ^ 64

-- a fault of an index as one of a stream
abbrev pub stream_fault : IndexFault → StreamFault
stream_fault (Truncated b) = stream.Truncated b
stream_fault Pad = stream.Pad
stream_fault Trailing = stream.Trailing
stream_fault Memory = stream.Memory
