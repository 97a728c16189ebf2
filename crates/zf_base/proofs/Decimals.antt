-- The decimal text of a number.
use Rattle.std.proofs.Common.{◌≡◌, ℕ, zero, suc, ◌^◌, ◌<◌, length, get_or, ap, arith, lit<}
use Rattle.std.{specs.Prelude.{decimal}, proofs.lemmas.Fmt.{decimal_digit, first_decimal}}

-- a zero begins no longer number
pub one_zero : (n : ℕ) → n < 2 ^ 64 → get_or (decimal n) 0 0 ≡ 48 → 1 < length (decimal n) → ⊥
one_zero zero small first long = omega (arith, ap length (decimal_digit 0 (lit< tt)))
one_zero (suc n) small first long = omega (arith, first_decimal (suc n) (omega arith) small)
