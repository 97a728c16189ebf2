-- Why bytes begin with no header: the first of these faults.
use Rattle.std.specs.Prelude.{ℕ, ◌==◌, Bool, not, ◌&&◌, ◌||◌, nat_lt, nat_le, List, [], ◌∷◌, ◌++◌, length, Option, Some, None, if◌then◌else◌}
use Rattle.zf_spec.specs.Grid.{product, max_values}
use Rattle.zf_spec.specs.Stream.{magic, codec, to_bits}
use Rattle.zf_header.specs.declared.header.HeaderFault.{HeaderFault}
use Rattle.zf_header.specs.declared.header.HeaderFault.TheVariants.{Short, Magic, Codec, Scalar, Order, TooLarge, Mode}
use Rattle.zf_header.specs.HeaderFields.{magic_in, codec_in, type_in, dims_in, sizes_in, mode_in, is_long_rate}

-- the fault of the first line that holds
abbrev pub first_fault : List (Bool × HeaderFault) → Option HeaderFault
first_fault [] = None
first_fault (line ∷ lines) = if line.0 then Some line.1 else first_fault lines

-- the lines of the prefix: fewer than 12 bytes; other letters than "zfp"; no codec's number; floating-point
-- numbers;
--     the codec of other dimensions
abbrev pub prefix_faults : List ℕ → List (Bool × HeaderFault)
prefix_faults bytes =
    let s = to_bits bytes in
    (nat_lt (length bytes) 12, Short)
    ∷ (not (magic_in s == magic), Magic)
    ∷ (not (codec_in s == 5 || codec_in s == 69), Codec)
    ∷ (nat_lt 1 (type_in s), Scalar)
    ∷ (not (codec_in s == codec (dims_in s)), Order)
    ∷ []

-- the line of the sizes: too many values
abbrev pub size_faults : List ℕ → List (Bool × HeaderFault)
size_faults bytes = (nat_lt max_values (product (sizes_in (to_bits bytes))), TooLarge) ∷ []

-- the lines of the mode: fixed accuracy (2177 to 4094); the long form (4095) in fewer than 19 bytes; a long
-- form that is not
--     that of a rate
abbrev pub mode_faults : List ℕ → List (Bool × HeaderFault)
mode_faults bytes =
    let s = to_bits bytes in
    let m = mode_in s in
    (nat_le 2177 m && nat_le m 4094, Mode m)
    ∷ (m == 4095 && nat_lt (length bytes) 19, Short)
    ∷ (m == 4095 && not (is_long_rate s), Mode m)
    ∷ []

-- what is wrong with bytes, if anything: the first line that holds
unfoldable pub header_fault : List ℕ → Option HeaderFault
header_fault bytes = first_fault (prefix_faults bytes ++ size_faults bytes ++ mode_faults bytes)
