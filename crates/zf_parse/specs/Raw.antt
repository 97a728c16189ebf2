-- The raw values of an array, and their stream.
use Rattle.std.specs.Prelude.{ℕ, ◌*◌, nat_lt, ℤ, List, length, Result, Ok, Err, if◌then◌else◌}
use Rattle.std.specs.Int.{byte_len}
use Rattle.zf_spec.specs.Grid.{product}
use Rattle.zf_spec.specs.Stream as stream
use Rattle.zf_base.specs.Widths.{width_of}
use Rattle.zf_header.specs.declared.header.Header.{Header}
use Rattle.zf_header.specs.HeaderBits.{coding}
use Rattle.zf_parse.specs.declared.fault.StreamFault.{StreamFault}
use Rattle.zf_parse.specs.declared.fault.StreamFault.TheVariants.{RawShort, RawLong}

-- how many bytes the raw values of an array have
abbrev pub raw_len : Header → ℕ
raw_len h = byte_len (width_of h.ty) * product h.shape

-- the values as bytes, each little-endian, in raster order
abbrev pub raw_bytes : Header → List ℤ → List ℕ
raw_bytes h values = stream.raw (width_of h.ty) values

-- the stream of an array's values
unfoldable pub stream_of : Header → List ℤ → List ℕ
stream_of h values = stream.stream (width_of h.ty) h.shape (coding h.mode) values

-- the stream of the values whose raw bytes are these, continued with zero bytes or cut at the array's length
unfoldable pub stream_text : Header → List ℕ → List ℕ
stream_text h bytes = stream.stream_of_bytes (width_of h.ty) h.shape (coding h.mode) bytes

-- what is said of these bytes where so many are wanted
abbrev pub length_answer : ℕ → List ℕ → Result (Unit {0}) StreamFault
length_answer wanted bytes =
    if nat_lt (length bytes) wanted then Err (RawShort (length bytes))
    else (if nat_lt wanted (length bytes) then Err RawLong else Ok tt)

-- what `compress` answers for an input of these bytes
abbrev pub compress_answer : Header → List ℕ → Result (Unit {0}) StreamFault
compress_answer h bytes = length_answer (raw_len h) bytes
