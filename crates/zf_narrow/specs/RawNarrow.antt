-- The raw bytes of narrow values, and those of the int32 values that stand for them.
use Rattle.std.specs.Prelude.{ℕ, ◌/◌, ◌%◌, ℤ, pos, List, ◌++◌, map, length, replicate}
use Rattle.std.specs.Int.{w8, w16, w32, cast_unsigned, cast_signed, from_le_bytes, to_le_bytes}
use Rattle.zf_spec.specs.Stream.{raw, values_from}
use Rattle.zf_narrow.specs.declared.narrow.Narrow.{Narrow}
use Rattle.zf_narrow.specs.declared.narrow.Narrow.TheVariants.{I8, U8, I16, U16}
use Rattle.zf_narrow.specs.Values.{width_of, size_of, promoted, demoted}

-- the number of the type that has the bits of this signed one
abbrev pub of_signed : Narrow → ℤ → ℤ
of_signed I8 v = v
of_signed U8 v = pos (cast_unsigned w8 v)
of_signed I16 v = v
of_signed U16 v = pos (cast_unsigned w16 v)

-- the value that has these bytes, the least significant first
abbrev pub value_of : Narrow → List ℕ → ℤ
value_of n bytes = of_signed n (cast_signed (width_of n) (from_le_bytes (width_of n) bytes))

-- the raw bytes of a number of the type
abbrev pub narrow_bytes : Narrow → ℤ → List ℕ
narrow_bytes n v = to_le_bytes (width_of n) (cast_unsigned (width_of n) v)

-- the first k values of raw bytes, each in 1 or 2 bytes, the least significant first
abbrev pub values_in : Narrow → ℕ → List ℕ → List ℤ
values_in n k s = map (of_signed n) (values_from (width_of n) k s)

-- as many values as are whole in these bytes
abbrev pub whole_values : Narrow → List ℕ → List ℤ
whole_values n s = values_in n (length s / size_of n) s

-- raw int32 bytes: those of the values that stand for the whole narrow values of these bytes
abbrev pub promoted_bytes : Narrow → List ℕ → List ℕ
promoted_bytes n s = raw w32 (map (promoted n) (whole_values n s))

-- the same, and a zero byte where half a value is left over
abbrev pub promoted_all : Narrow → List ℕ → List ℕ
promoted_all n s = promoted_bytes n s ++ replicate (length s % size_of n) 0

-- raw narrow bytes: those of the numbers that int32 values stand for
abbrev pub raw_narrow : Narrow → List ℤ → List ℕ
raw_narrow n values = raw (width_of n) (map (demoted n) values)

-- those of the whole values of raw int32 bytes
abbrev pub demoted_bytes : Narrow → List ℕ → List ℕ
demoted_bytes n bytes = raw_narrow n (values_from w32 (length bytes / 4) bytes)
