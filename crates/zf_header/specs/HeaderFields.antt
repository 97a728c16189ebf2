-- What the fields of a header say, at their places in a list of bits (zfp 1.0 documentation).
use Rattle.std.specs.Prelude.{ℕ, ◌+◌, ◌-◌, ◌*◌, ◌/◌, ◌==◌, Bool, ◌&&◌, nat_lt, nat_le, List, map, take, drop, if◌then◌else◌}
use Rattle.zf_base.specs.declared.lane.Ty.TheVariants.{I32, I64}
use Rattle.zf_spec.specs.Numbers.{number}
use Rattle.zf_spec.specs.Grid.{upto}
use Rattle.zf_spec.specs.Stream.{all_planes, no_exponent}
use Rattle.zf_header.specs.declared.header.Header.{Header}
use Rattle.zf_header.specs.declared.header.Mode.{Mode}
use Rattle.zf_header.specs.declared.header.Mode.TheVariants.{Reversible, Rate, Precision}

-- the number in the n bits from bit `at` on
unfoldable pub number_at : ℕ → ℕ → List Bool → ℕ
number_at at n s = number (take n (drop at s))

abbrev pub magic_in : List Bool → ℕ
magic_in s = number_at 0 24 s

abbrev pub codec_in : List Bool → ℕ
codec_in s = number_at 24 8 s

-- the type's number less 1: 0 and 1 are the whole numbers, 2 and 3 the floating-point numbers
abbrev pub type_in : List Bool → ℕ
type_in s = number_at 32 2 s

-- the number of dimensions
abbrev pub dims_in : List Bool → ℕ
dims_in s = number_at 34 2 s + 1

-- the size along an axis: its field is one of d that share 48 bits, and holds it less 1. Along an unused axis
-- it is 1
abbrev pub size_in : ℕ → ℕ → List Bool → ℕ
size_in d axis s = if nat_lt axis d then number_at (36 + axis * (48 / d)) (48 / d) s + 1 else 1

-- the sizes, x first
abbrev pub sizes_in : List Bool → List ℕ
sizes_in s = map (λ axis. size_in (dims_in s) axis s) (upto (dims_in s))

-- the mode's number
abbrev pub mode_in : List Bool → ℕ
mode_in s = number_at 84 12 s

-- the rate of the long form
abbrev pub long_rate_in : List Bool → ℕ
long_rate_in s = number_at 96 15 s + 1

-- the long form is that of a fixed rate above 2048: as many bits at least as at most, all planes, the least
-- exponent
abbrev pub is_long_rate : List Bool → Bool
is_long_rate s =
    nat_lt 2048 (long_rate_in s) && number_at 111 15 s + 1 == long_rate_in s && number_at 126 7 s ==
    all_planes && number_at 133 15 s == no_exponent

-- the mode that a number says, and the rate of the long form
abbrev pub mode_said : ℕ → ℕ → Mode
mode_said m rate =
    if m == 2176 then Reversible
    else (if nat_le 2048 m && nat_le m 2175 then Precision (m - 2047) else Rate
    (if m == 4095 then rate else m + 1))

-- the header that the fields say
abbrev pub header_in : List Bool → Header
header_in s = record {
  ty = if type_in s == 0 then I32 else I64;
  shape = sizes_in s;
  mode = mode_said (mode_in s) (long_rate_in s);
}
