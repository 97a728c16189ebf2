-- The bits of a header, and which headers have them (zfp 1.0 documentation).
use Rattle.std.specs.Prelude.{ℕ, ◌+◌, ◌*◌, ◌≡◌, ◌≤◌, Bool, List, length, take}
use Rattle.std.specs.Int.{div_ceil}
use Rattle.zf_base.specs.Widths.{width_of}
use Rattle.zf_spec.specs.Grid.{IsShape, blocks}
use Rattle.zf_spec.specs.Stream as stream
use Rattle.zf_spec.specs.Stream.{header, to_bits, reversible, fixed_rate, fixed_precision}
use Rattle.zf_header.specs.declared.header.Header.{Header}
use Rattle.zf_header.specs.declared.header.Mode.{Mode}
use Rattle.zf_header.specs.declared.header.Mode.TheVariants.{Reversible, Rate, Precision}

-- the mode as the definitions of streams have it
abbrev pub coding : Mode → stream.Mode
coding Reversible = reversible
coding (Rate b) = fixed_rate b
coding (Precision p) = fixed_precision p

-- the bits of each block, which only a fixed rate states
abbrev pub block_bits : Mode → ℕ
block_bits Reversible = 0
block_bits (Rate b) = b
block_bits (Precision p) = 0

-- a fixed rate that a header can state
abbrev pub IsRate : Mode → Type 0
IsRate Reversible = ⊥
IsRate (Rate b) = (1 ≤ b) × (b ≤ 32768)
IsRate (Precision p) = ⊥

-- a mode that a header can state: a rate is 1 to 32768, a precision 1 to 128
abbrev pub IsMode : Mode → Type 0
IsMode Reversible = Unit {0}
IsMode (Rate b) = IsRate (Rate b)
IsMode (Precision p) = (1 ≤ p) × (p ≤ 128)

-- what a header can say: the sizes are a shape's, and the mode has a number
pub record IsHeader (h : Header) : Type 0 where
  pub shape : IsShape h.shape
  pub mode : IsMode h.mode

-- the bits of a header
unfoldable pub header_bits : Header → List Bool
header_bits h = header (width_of h.ty) h.shape (coding h.mode)

-- the bits of these bytes begin with those of the header
pub record BeginsWith (bytes : List ℕ) (h : Header) : Type 0 where
  pub bits : take (length (header_bits h)) (to_bits bytes) ≡ header_bits h

-- the bytes of a stream with a fixed rate: whole words of 64 bits
abbrev pub rate_bytes_of : Header → ℕ
rate_bytes_of h = 8 * div_ceil (length (header_bits h) + blocks h.shape * block_bits h.mode) 64
