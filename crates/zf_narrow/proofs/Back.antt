-- Narrow values and what stands for them, there and back.
use Rattle.std.proofs.Common.{rules, FitsSigned, ◌≡◌, ℤ, pos, ◌+ℤ◌, ◌-ℤ◌, ◌*ℤ◌, arith}
use Rattle.std.{proofs.lemmas.Int.{ints, clamps}, specs.Int.{w32}}
use Rattle.zf_narrow.specs.declared.narrow.Narrow.{Narrow}
use Rattle.zf_narrow.specs.Values.{IsNarrow, step_of, promoted, floor_div, nearest, demoted}

-- a whole number of steps is that number of them, rounded down
floor_div-times : (n : Narrow) (v : ℤ) → floor_div (v *ℤ pos (step_of n)) (step_of n) ≡ v
floor_div-times n v = grind (arith, ints)

pub nearest_narrow : (n : Narrow) (v : ℤ) → IsNarrow n (nearest n v)
nearest_narrow n v = grind (arith, ints, clamps)

-- a number of the type is the nearest to itself
nearest_itself : (n : Narrow) (v : ℤ) → IsNarrow n v → nearest n v ≡ v
nearest_itself n v is = grind (arith, ints, clamps)

there_and_back : (a b : ℤ) → (a -ℤ b) +ℤ b ≡ a
there_and_back a b = omega (arith, ints)

pub demoted-promoted : (n : Narrow) (v : ℤ) → IsNarrow n v → demoted n (promoted n v) ≡ v
demoted-promoted n v is = search (rules, floor_div-times, there_and_back, nearest_itself)

pub promoted_fits : (n : Narrow) (v : ℤ) → IsNarrow n v → FitsSigned w32 (promoted n v)
promoted_fits n v is = grind (arith, ints)
