-- What is said of the values that are made, of their stream and of what comes back.
use Rattle.std.specs.Prelude.{ℕ, zero, suc, ◌+◌, List, length, take, drop, if◌then◌else◌}
use Rattle.std.specs.Int.{byte_len}
use Rattle.std.specs.Str.{bytes_eq}
use Rattle.zf_spec.specs.Grid.{product, blocks}
use Rattle.zf_base.specs.Widths.{width_of}
use Rattle.zf_header.specs.declared.header.Header.{Header}
use Rattle.zf_parse.specs.Raw.{raw_bytes, stream_text}
use Rattle.zf_parse.specs.Parsing.{restored_text}
use Rattle.zf_sample.specs.declared.summary.Summary.{Summary}
use Rattle.zf_sample.specs.Made.{made_values}

-- how many of n values of so many bytes each differ in two lists of raw bytes
abbrev pub changes : ℕ → ℕ → List ℕ → List ℕ → ℕ
changes len zero xs ys = 0
changes len (suc n) xs ys = (if bytes_eq (take len xs) (take len ys) then 0 else 1) + changes len n
    (drop len xs) (drop len ys)

-- the raw values of the array
abbrev pub made_bytes : Header → ℕ → List ℕ
made_bytes h seed = raw_bytes h (made_values (width_of h.ty) (product h.shape) seed)

-- how many values and blocks there are, the bytes of the stream, and how many values come back changed
abbrev pub summary_of : Header → ℕ → Summary
summary_of h seed =
    let bytes = made_bytes h seed in
    let text = stream_text h bytes in
    record {
      values = product h.shape;
      blocks = blocks h.shape;
      bytes = length text;
      changed = changes (byte_len (width_of h.ty)) (product h.shape) bytes (restored_text text);
    }
