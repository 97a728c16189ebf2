-- Values of 8 and 16 bits, and the int32 values that stand for them: zfp's promotion, by which the values of
-- a type lie evenly around zero.
use Rattle.std.specs.Prelude.{ℕ, ◌/◌, ◌^◌, ℤ, pos, negsuc, ◌+ℤ◌, ◌-ℤ◌, ◌*ℤ◌, ◌≤ℤ◌}
use Rattle.std.specs.Int.{Width, w8, w16, int_max, int_min}
use Rattle.zf_narrow.specs.declared.narrow.Narrow.{Narrow}
use Rattle.zf_narrow.specs.declared.narrow.Narrow.TheVariants.{I8, U8, I16, U16}

-- the width of a value
abbrev pub width_of : Narrow → Width
width_of I8 = w8
width_of U8 = w8
width_of I16 = w16
width_of U16 = w16

-- how many bytes it has
abbrev pub size_of : Narrow → ℕ
size_of I8 = 1
size_of U8 = 1
size_of I16 = 2
size_of U16 = 2

-- how far apart the int32 values of neighbours lie
abbrev pub step_of : Narrow → ℕ
step_of I8 = 2 ^ 23
step_of U8 = 2 ^ 23
step_of I16 = 2 ^ 15
step_of U16 = 2 ^ 15

-- the number that zero stands for
abbrev pub middle_of : Narrow → ℤ
middle_of I8 = pos 0
middle_of U8 = pos 128
middle_of I16 = pos 0
middle_of U16 = pos 32768

-- the least and the greatest number of the type
abbrev pub least_of : Narrow → ℤ
least_of I8 = negsuc 127
least_of U8 = pos 0
least_of I16 = negsuc 32767
least_of U16 = pos 0

abbrev pub greatest_of : Narrow → ℤ
greatest_of I8 = pos 127
greatest_of U8 = pos 255
greatest_of I16 = pos 32767
greatest_of U16 = pos 65535

-- a number of the type
pub record IsNarrow (n : Narrow) (v : ℤ) : Type 0 where
  pub at_least : least_of n ≤ℤ v
  pub at_most : v ≤ℤ greatest_of n

-- the int32 value that stands for a number of the type
abbrev pub promoted : Narrow → ℤ → ℤ
promoted n v = (v -ℤ middle_of n) *ℤ pos (step_of n)

-- v / d, rounded down
abbrev pub floor_div : ℤ → ℕ → ℤ
floor_div (pos m) d = pos (m / d)
floor_div (negsuc m) d = negsuc (m / d)

-- the number of the type that is nearest
abbrev pub nearest : Narrow → ℤ → ℤ
nearest n v = int_min (int_max v (least_of n)) (greatest_of n)

-- the number of the step that an int32 value lies on or next above, where the type had no end
abbrev pub on_step : Narrow → ℤ → ℤ
on_step n v = floor_div v (step_of n) +ℤ middle_of n

-- the number of the type that an int32 value stands for
abbrev pub demoted : Narrow → ℤ → ℤ
demoted n v = nearest n (on_step n v)
