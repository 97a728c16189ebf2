-- The stream of an array: header bits, the codes of its blocks, and the fill (zfp 1.0 documentation;
-- codec byte 69 and the profile of the long form are this project's own).
use Rattle.std.specs.Prelude.{ℕ, suc, zero, ◌+◌, ◌-◌, ◌/◌, ◌%◌, ℤ, Bool, false, nat_lt, nat_le, List, [], ◌∷◌, ◌++◌, map, length, take, drop, replicate, if◌then◌else◌}
use Rattle.std.specs.List.{flat_map}
use Rattle.std.specs.Int.{Width, byte_len, to_le_bytes, from_le_bytes, cast_unsigned, cast_signed}
use mir.Val.{bits}
use Rattle.zf_spec.specs.Numbers.{field, number}
use Rattle.zf_spec.specs.Grid.{upto, product, blocks, extent_of, block_of}
use Rattle.zf_spec.specs.Codes.{rev, rate, prec}

-- how the blocks of a stream are coded: without loss, each in this many bits, or each to this many planes
pub data Mode : Type 0 where
  reversible : Mode
  fixed_rate : ℕ → Mode
  fixed_precision : ℕ → Mode

-- how many bits lead from n bits to a whole word of 64
abbrev pub fill_len : ℕ → ℕ
fill_len n = (64 - n % 64) % 64

-- the fill: zero bits up to a whole word of 64
abbrev pub fill : List Bool → List Bool
fill bs = replicate (fill_len (length bs)) false

abbrev pub with_fill : List Bool → List Bool
with_fill bs = bs ++ fill bs

-- bit i of a list of bits is bit i mod 8 of byte i / 8: n bytes
abbrev pub bytes_from : ℕ → List Bool → List ℕ
bytes_from zero bs = []
bytes_from (suc n) bs = number (take 8 bs) ∷ bytes_from n (drop 8 bs)

-- the bytes of whole bytes of bits, and the bits of bytes
abbrev pub to_bytes : List Bool → List ℕ
to_bytes bs = bytes_from (length bs / 8) bs

abbrev pub to_bits : List ℕ → List Bool
to_bits bytes = flat_map (field 8) bytes

-- raw values: each little-endian, in raster order
abbrev pub raw : Width → List ℤ → List ℕ
raw w values = flat_map (λ v. to_le_bytes w (cast_unsigned w v)) values

-- the first n bytes of s continued with zero bytes
abbrev pub first_bytes : ℕ → List ℕ → List ℕ
first_bytes zero s = []
first_bytes (suc n) [] = 0 ∷ first_bytes n []
first_bytes (suc n) (b ∷ s) = b ∷ first_bytes n s

-- the n values whose raw bytes are s, after s is continued with zero bytes or cut
abbrev pub values_from : Width → ℕ → List ℕ → List ℤ
values_from w zero s = []
values_from w (suc n) s = cast_signed w (from_le_bytes w (first_bytes (byte_len w) s))
    ∷ values_from w n (drop (byte_len w) s)

-- the letters "zfp" in front of a stream: the bytes 7a 66 70
abbrev pub magic : ℕ
magic = 0x70667a

-- the codec's number: 5 in one and two dimensions, as zfp 1.0 writes; 69 in three and four (this project's
-- own)
abbrev pub codec : ℕ → ℕ
codec d = if nat_le d 2 then 5 else 69

-- 1 for int32, 2 for int64
abbrev pub type_number : Width → ℕ
type_number w = if nat_lt 32 (bits w) then 2 else 1

-- the mode's number: the rate less 1 up to 2048, the precision plus 2047, 2176 for reversible; and else 4095,
-- which begins the long form
abbrev pub mode_number : Mode → ℕ
mode_number reversible = 2176
mode_number (fixed_rate b) = if nat_le b 2048 then b - 1 else 4095
mode_number (fixed_precision p) = p + 2047

-- in the long form of a rate, the most planes (zfp's maxprec) of all 64, less 1, and the least exponent,
-- which is no limit
abbrev pub all_planes : ℕ
all_planes = 63

abbrev pub no_exponent : ℕ
no_exponent = 15421

-- the long form of a rate above 2048: the least and the most bits, the most planes, the least exponent
abbrev pub long_form : Mode → List Bool
long_form reversible = []
long_form (fixed_rate b) = if nat_le b 2048 then [] else field 15 (b - 1) ++ field 15 (b - 1)
    ++ field 7 all_planes ++ field 15 no_exponent
long_form (fixed_precision p) = []

-- the header bits of an array of these sizes
unfoldable pub header : Width → List ℕ → Mode → List Bool
header w ns mode =
    let d = length ns in
    field 24 magic ++ field 8 (codec d) ++ field 2 (type_number w - 1) ++ field 2 (d - 1)
    ++ flat_map (λ n. field (48 / d) (n - 1)) ns ++ field 12 (mode_number mode) ++ long_form mode

-- the code of a block with these extents
abbrev pub block_code : Width → Mode → List ℕ → List ℤ → List Bool
block_code w reversible es block = rev w es block
block_code w (fixed_rate b) es block = rate w b es block
block_code w (fixed_precision p) es block = prec w p es block

-- the codes of the blocks of an array, in order
abbrev pub codes : Width → List ℕ → Mode → List ℤ → List (List Bool)
codes w ns mode values = map (λ b. block_code w mode (extent_of ns b) (block_of ns values b))
    (upto (blocks ns))

-- the file with given codes of the blocks
unfoldable pub file : Width → List ℕ → Mode → List (List Bool) → List ℕ
file w ns mode cs = to_bytes (with_fill (header w ns mode ++ flat_map (λ c. c) cs))

-- the stream of an array's values
unfoldable pub stream : Width → List ℕ → Mode → List ℤ → List ℕ
stream w ns mode values = file w ns mode (codes w ns mode values)

-- the stream of the values whose raw bytes are s, continued with zero bytes or cut
unfoldable pub stream_of_bytes : Width → List ℕ → Mode → List ℕ → List ℕ
stream_of_bytes w ns mode s = stream w ns mode (values_from w (product ns) s)
