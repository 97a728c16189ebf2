-- The places of a line, in a block that is made of whole groups of lines.
use Rattle.std.proofs.Common.{◌≡◌, ℕ, ◌+◌, ◌*◌, ◌/◌, ◌%◌, ◌<◌, ◌≤◌, ℤ, pos, List, length, get_or, ap, ◌∙◌, ⊎_elim, arith, rules}
use Rattle.std.{proofs.lemmas.Bool.{cases_lt}, proofs.lemmas.Nat.{div-mul-add}}
use Rattle.std.proofs.Math.Nat.{mul-le-mul_left, mod-lt}
use Rattle.zf_spec.specs.Lift.{along}
use Rattle.zf_axes.proofs.Strides.{line_start, line_start-is, line_start-member, groups_are_whole, group_inside}
use Rattle.zf_axes.proofs.LineByLine.{get_or-along}

module _ (s p n : ℕ) (some : 0 < s) (groups : n % (4 * s) ≡ 0) (inside : p < n) where
  -- the group of the line is one of the block's
  group_below : p / s / 4 < n / s / 4
  group_below = ⊎_elim (λ below. below)
      (λ past. absurd (omega (arith, mul-le-mul_left (4 * s) past, line_start-is s p some, groups_are_whole s n some groups)))
      (cases_lt (p / s / 4) (n / s / 4))

  -- so each of the four places is in the block
  pub member_inside : (k : ℕ) → k < 4 → line_start s p + s * k < n
  member_inside k small =
      let three : k ≤ 3 = omega arith in
      let steps = mul-le-mul_left s three in
      omega (arith, steps, line_start-is s p some, mod-lt p some, group_inside s n (p / s / 4) some groups group_below)

  pub member_start : (k : ℕ) → k < 4 → line_start s (line_start s p + s * k) ≡ line_start s p
  member_start k small = search (rules, line_start-is, line_start-member, line_start, mod-lt)

  pub member_index : (k : ℕ) → k < 4 → (line_start s p + s * k) / s % 4 ≡ k
  member_index k small =
      let g = p / s / 4 in
      let split : line_start s p + s * k ≡ (4 * g + k) * s + p % s = omega (arith, line_start-is s p some) in
      let quotient : (line_start s p + s * k) / s ≡ 4 * g + k = ap (λ q. q / s) split ∙ div-mul-add (4 * g + k) s (p % s) (mod-lt p some) in
      omega (arith, quotient)

-- the value that a pass gives to a member of a line
pub get_or-member : (f : ℤ → ℤ → ℤ → ℤ → List ℤ) (s : ℕ) (block : List ℤ) (p k : ℕ) → 0 < s → length block % (4 * s) ≡ 0 → p < length block → k < 4
    → let value = λ (j : ℕ). get_or block (line_start s p + s * j) (pos 0) in
    get_or (along f s block) (line_start s p + s * k) (pos 0) ≡ get_or (f (value 0) (value 1) (value 2) (value 3)) k (pos 0)
get_or-member f s block p k some groups inside small =
    let q = line_start s p + s * k in
    let along_is = get_or-along f s block q (member_inside s p (length block) some groups inside k small) in
    cc (member_start s p (length block) some groups inside k small, member_index s p (length block) some groups inside k small)
