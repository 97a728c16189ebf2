-- Halves that are rounded down, and the digit that a half leaves.
use Rattle.std.proofs.Common.{rules, ◌≡◌, ℕ, ◌+◌, ◌%◌, Bool, not, eqb-true, ℤ, pos, negsuc, ◌+ℤ◌, ◌*ℤ◌, ◌≤ℤ◌, ◌<ℤ◌, arith}
use Rattle.std.{proofs.lemmas.Bool.{eqb-false}, proofs.lemmas.Int.{ints}}
use Rattle.zf_spec.specs.Numbers.{floor_half, is_odd, is_odd_int, digit_value}

-- the lowest bit as a number
pub digit_value-is_odd : (n : ℕ) → digit_value (is_odd n) ≡ n % 2
digit_value-is_odd n = search (rules, eqb-true, eqb-false)

digit_value-not : (b : Bool) → digit_value (not b) + digit_value b ≡ 1
digit_value-not b = grind arith

-- a number is its lowest digit and twice its half
pub half_split : (v : ℤ) → v ≡ pos (digit_value (is_odd_int v)) +ℤ pos 2 *ℤ floor_half v
half_split (pos n) = let d = digit_value-is_odd n in omega (arith, ints)
half_split (negsuc n) = let d = digit_value-is_odd n in let e = digit_value-not (is_odd n) in omega (arith, ints)

pub floor_half_at_most : (v : ℤ) → (pos 2 *ℤ floor_half v) ≤ℤ v
floor_half_at_most v = omega (arith, half_split v, ints)

pub floor_half_above : (v : ℤ) → v <ℤ (pos 2 *ℤ (floor_half v +ℤ pos 1))
floor_half_above v = search (rules, half_split, ints)

-- the half is the only number whose double is at most v and more than v - 2
pub floor_half_only : (v h : ℤ) → (pos 2 *ℤ h) ≤ℤ v → v <ℤ (pos 2 *ℤ (h +ℤ pos 1)) → h ≡ floor_half v
floor_half_only v h below above = search (rules, half_split, ints)
