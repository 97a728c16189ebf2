-- An array that is compressed row by row: how far its raw values were read, and its codes written.
use Rattle.std.specs.Prelude.{ℕ, ◌≡◌, ◌+◌, ◌*◌, ◌/◌, ◌%◌, ◌≤◌, ◌⊎◌, Bool, true, List, ◌++◌, map, length}
use Rattle.std.specs.Prelude.{Option, Result, Err, OnOk}
use Rattle.std.specs.List.{flat_map}
use Rattle.std.specs.Int.{byte_len}
use Rattle.zf_spec.specs.Grid.{product, upto, extent_of, block_of}
use Rattle.zf_spec.specs.Stream.{block_code, codes, values_from}
use Rattle.zf_base.specs.Widths.{width_of}
use Rattle.zf_pad.specs.Slabs.{rows_of, row_len, IsSlab, first_block}
use Rattle.zf_header.specs.declared.header.Header.{Header}
use Rattle.zf_header.specs.HeaderBits.{coding}
use Rattle.zf_dev.specs.declared.source.Source.{Ghosts as Source}
use Rattle.zf_dev.specs.declared.sink.Sink.{Ghosts as Sink}
use Rattle.zf_dev.specs.Devices.{Reads, Writes}
use Rattle.zf_dev.specs.Source.{Takes, Gives}
use Rattle.zf_parse.specs.declared.fault.StreamFault.{StreamFault}
use Rattle.zf_parse.specs.declared.fault.StreamFault.TheVariants.{Read, Write}
use Rattle.zf_parse.specs.Raw.{raw_len, compress_answer, stream_text}
use Rattle.zf_stream.specs.Outcomes.{Compressed, CompressedGiven}
use Rattle.zf_stream.specs.ReadRaw.{LacksRaw}
use Rattle.zf_stream.specs.Flows.{Flows, Spills}

-- how many raw bytes so many rows have
abbrev pub rows_len : Header → ℕ → ℕ
rows_len h rows = row_len h.shape * rows * byte_len (width_of h.ty)

-- an array is cut into pieces of so many rows, of which the last may have fewer: no block is cut along the
-- last axis
pub record ArePieces (ns : List ℕ) (rows : ℕ) : Type 0 where
  pub some : 1 ≤ rows
  pub few : rows ≤ rows_of ns
  pub whole : (rows % 4 ≡ 0) ⊎ (rows ≡ rows_of ns)

-- the code of block b of the array whose raw values are these bytes, continued with zero bytes
abbrev pub code_of_block : Header → List ℕ → ℕ → List Bool
code_of_block h bytes b =
    let w = width_of h.ty in
    block_code w (coding h.mode) (extent_of h.shape b)
    (block_of h.shape (values_from w (product h.shape) bytes) b)

-- the codes of the blocks of the first rows
abbrev pub codes_of_rows : Header → ℕ → List ℕ → List Bool
codes_of_rows h rows bytes = flat_map (λ c. c)
    (map (code_of_block h bytes) (upto (first_block h.shape ((rows + 3) / 4))))

-- the first rows were read, and their codes are on their way behind these bits
pub record Compresses (h : Header) (rows : ℕ) (src_before src_now : Option (List ℕ)) (gives : List ℕ → Type 0)
    (out_before out_now : Option (List ℕ)) (bits left : List Bool) : Type 0 where
  pub whole : IsSlab h.shape 0 rows
  pub bytes : List ℕ
  pub taken : Takes src_before src_now bytes
  pub given : gives bytes
  pub long : length bytes ≡ rows_len h rows
  pub flows : Flows out_before out_now (bits ++ codes_of_rows h rows bytes) left

-- some first rows were read, and maybe more; a prefix of the codes of these rows was written
pub record Stops (h : Header) (src_before src_now : Option (List ℕ)) (gives : List ℕ → Type 0)
    (out_before out_now : Option (List ℕ)) (bits : List Bool) : Type 0 where
  pub rows : ℕ
  pub whole : IsSlab h.shape 0 rows
  pub bytes : List ℕ
  pub more : List ℕ
  pub taken : Takes src_before src_now (bytes ++ more)
  -- what the source says that it gave, which may end otherwise: of the bytes behind the rows nothing was made
  pub lost : List ℕ
  pub given : gives (bytes ++ lost)
  pub long : length bytes ≡ rows_len h rows
  pub spills : Spills out_before out_now (bits ++ codes_of_rows h rows bytes)

-- how compressing the array ends: what the devices expose, and what was made of what the source says that it
-- gave
pub record Ends (h : Header) (result : Result (Unit {0}) StreamFault) (src_before src_now : Option (List ℕ))
    (gives : List ℕ → Type 0) (out_before out_now : Option (List ℕ)) : Type 0 where
  pub outcome : Compressed (compress_answer h) (stream_text h)
      (raw_len h) result src_before src_now out_before out_now
  pub given : CompressedGiven (compress_answer h) (stream_text h) result gives out_before out_now

-- the same of a source and a sink, with what is left of both
pub record Compressing {A B : Type 0} (S : Source A) (O : Sink B) (h : Header)
    (result : Result (Unit {0}) StreamFault) (src src_now : A) (out out_now : B) : Type 0 where
  pub ends : Ends h result (S.contents src) (S.contents src_now) (Gives (S.gave src) (S.gave src_now))
      (O.contents out) (O.contents out_now)
  pub ended : OnOk result (S.ended src_now ≡ true)
  pub source : Reads S (result ≡ Err Read) src src_now
  pub sink : Writes O (result ≡ Err Write) out out_now

-- ---- a slab, which is an array of its own

-- its codes
abbrev pub slab_codes : Header → List ℕ → List Bool
slab_codes part raw = flat_map (λ c. c) (codes (width_of part.ty) part.shape (coding part.mode)
    (values_from (width_of part.ty) (product part.shape) raw))

-- its raw values were read, and its codes are on their way
pub record WritesSlab (part : Header) (src_before src_now : Option (List ℕ)) (gives : List ℕ → Type 0)
    (out_before out_now : Option (List ℕ)) (bits left : List Bool) : Type 0 where
  pub raw : List ℕ
  pub taken : Takes src_before src_now raw
  pub given : gives raw
  pub long : length raw ≡ product part.shape * byte_len (width_of part.ty)
  pub flows : Flows out_before out_now (bits ++ slab_codes part raw) left

-- they were read, and a prefix of its codes was written
pub record SpillsSlab (part : Header) (src_before src_now : Option (List ℕ)) (gives : List ℕ → Type 0)
    (out_before out_now : Option (List ℕ)) (bits : List Bool) : Type 0 where
  pub raw : List ℕ
  pub taken : Takes src_before src_now raw
  pub given : gives raw
  pub long : length raw ≡ product part.shape * byte_len (width_of part.ty)
  pub spills : Spills out_before out_now (bits ++ slab_codes part raw)

-- its raw values were not read, behind so many bytes, or the sink failed
abbrev pub BreaksSlab : Header → ℕ → Option (List ℕ) → Option (List ℕ) → (List ℕ → Type 0) → Option (List ℕ)
    → Option (List ℕ) → List Bool → StreamFault → Type 0
BreaksSlab part before src_before src_now gives out_before out_now bits e =
    (LacksRaw before (product part.shape * byte_len (width_of part.ty)) src_before src_now e ×
    (out_now ≡ out_before))
    ⊎ ((e ≡ Write) × SpillsSlab part src_before src_now gives out_before out_now bits)
