-- What is left of a word at a signed type.
use Rattle.std.{proofs.Common.{◌≡◌, ℕ, ◌%◌, ◌^◌, pos, ap}, specs.Int.{Width, cast_signed, int_wrap}}
use mir.Val.{bits}

pub cast_signed_low : (w : Width) (n v : ℕ) → n ≡ v % 2 ^ bits w → cast_signed w n ≡ int_wrap w (pos v)
unfolding int_wrap
cast_signed_low w n v e = ap (cast_signed w) e
