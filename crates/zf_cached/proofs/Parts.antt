-- The parts of an array: which blocks each view owns.
use Rattle.std.proofs.Common.{◌≡◌, ◌≢◌, ◌⊎◌, inl, inr, ℕ, ◌+◌, ◌*◌, ◌/◌, ◌<◌, ◌≤◌, true, ltb, leb, arith}
use Rattle.std.{proofs.lemmas.Bool.{and_parts, ltb-true, leb-true, cases_lt}, proofs.lemmas.Nat.{le-div}}
use Rattle.std.proofs.Math.Nat.{div-mul-le_self, mul-le-mul_right}
use Rattle.zf_cached.{specs.Ownership.{Owns, first_of, count_of}, specs.Splits.{is_owner}}

module _ (n k : ℕ) (some : 0 < k) where
  pub rising : (i j : ℕ) → i ≤ j → first_of n k i ≤ first_of n k j
  rising i j le = le-div (i * n / k) (j * n) k some (omega (arith, mul-le-mul_right n le, div-mul-le_self (i * n) k))

  pub part_end : (i : ℕ) → first_of n k i + count_of n k i ≡ first_of n k (i + 1)
  part_end i = omega (arith, rising i (i + 1) (omega arith))

  -- no two parts share a block
  pub parts_apart : (i j b : ℕ) → i ≢ j → Owns (first_of n k i) (count_of n k i) b → Owns (first_of n k j) (count_of n k j) b → ⊥
  parts_apart i j b ne o p = by (cases_lt i j) (cases_lt j i)
    where
      by : (i < j) ⊎ (j ≤ i) → (j < i) ⊎ (i ≤ j) → ⊥
      by (inl lt) other = let far = o.1 in let start = p.0 in omega (arith, far, start, rising (i + 1) j (omega (arith, lt)), part_end i)
      by (inr ge) (inl lt) = let far = p.1 in let start = o.0 in omega (arith, far, start, rising (j + 1) i (omega (arith, lt)), part_end j)
      by (inr ge) (inr le) = ne (omega (arith, ge, le))

  -- the owner of a block, as the language tests it
  pub owner_owns : (i b : ℕ) → is_owner n k i b ≡ true → Owns (first_of n k i) (count_of n k i) b
  owner_owns i b e =
      let parts = and_parts (leb (first_of n k i) b) (ltb b (first_of n k (i + 1))) e in
      (leb-true (first_of n k i) b parts.0, let below = ltb-true b (first_of n k (i + 1)) parts.1 in omega (arith, below, part_end i))

  pub one_owner : (i j b : ℕ) → i ≢ j → is_owner n k i b ≡ true → is_owner n k j b ≡ true → ⊥
  one_owner i j b ne e f = parts_apart i j b ne (owner_owns i b e) (owner_owns j b f)
