-- What holds of the fields of a store, and of the bits of a file: the words are as long as the codes, with
-- zeros behind.
use Rattle.std.specs.Prelude.{ℕ, ◌≡◌, ◌+◌, ◌-◌, ◌*◌, ◌≤◌, Bool, false, List, ◌++◌, map, length, take, drop, replicate}
use Rattle.std.specs.Int.{Width, div_ceil}
use Rattle.zf_spec.specs.Grid.{IsShape, blocks, upto}
use Rattle.zf_spec.specs.Numbers.{word_bits}
use Rattle.zf_spec.specs.Stream.{to_bits, with_fill}
use Rattle.zf_base.specs.Widths.{width_of}
use Rattle.zf_bits.specs.Writer.{Writer}
use Rattle.zf_store.specs.Stored.{Stored}
use Rattle.zf_header.specs.declared.header.Header.{Header}
use Rattle.zf_header.specs.HeaderBits.{IsRate, block_bits, header_bits, rate_bytes_of}

-- n codes of so many bits each, one after another from the first bit on
abbrev pub codes_in : ℕ → ℕ → List Bool → List (List Bool)
codes_in budget n s = map (λ b. take budget (drop (b * budget) s)) (upto n)

-- a store of the codes that are in these bits
abbrev pub with_codes : Header → List Bool → Stored
with_codes h s = record { header = h; codes = codes_in (block_bits h.mode) (blocks h.shape) s }

-- how many bits all codes have
abbrev pub all_bits : Header → ℕ
all_bits h = blocks h.shape * block_bits h.mode

pub record IsKept (w : Width) (d : ℕ) (h : Header) (words : List ℕ) (code head : Writer) : Type 0
  where
    pub same_type : w ≡ width_of h.ty
    pub dims : length h.shape ≡ d
    pub shape : IsShape h.shape
    pub rate : IsRate h.mode
    pub size : length words ≡ div_ceil (all_bits h) 64
    pub blank : drop (all_bits h) (word_bits words) ≡ replicate (64 * length words - all_bits h) false
    pub code_fits : block_bits h.mode ≤ length code.bits + code.room
    pub head_is : head.bits ≡ header_bits h

-- a whole file of a rate: its header, as many bits as all codes have, and the fill
pub record IsWholeFile (bytes : List ℕ) (h : Header) : Type 0 where
  pub size : length bytes ≡ rate_bytes_of h
  pub bits : to_bits bytes ≡ with_fill (header_bits h
      ++ take (all_bits h) (drop (length (header_bits h)) (to_bits bytes)))
