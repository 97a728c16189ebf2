-- Places along the axis whose neighbours are s places apart: where a line begins, and which places it has.
--     The block is cut into groups of 4 * s places; the lines of a group begin at its first s places.
use Rattle.std.proofs.Common.{◌≡◌, ℕ, ◌+◌, ◌-◌, ◌*◌, ◌/◌, ◌%◌, ◌^◌, ◌<◌, ◌≤◌, ap, ◌∙◌, arith, ◌⊎◌, inl, inr, add-one, pow-add, rules}
use Rattle.std.{proofs.lemmas.Bool.{cases_lt}, proofs.lemmas.Nat.{div-mul-add, div-add-mod'}}
use Rattle.std.proofs.Math.Nat.{mul-le-mul_left, mod-lt, one-le-pow, pow-suc, pow-le-pow_right, mul-mod_left}

-- where the line of a place begins
abbrev pub line_start : ℕ → ℕ → ℕ
line_start s p = p - s * (p / s % 4)

-- a place is so many steps behind the start of its line
pub place-of_line : (s p : ℕ) → 0 < s → p ≡ line_start s p + s * (p / s % 4)
place-of_line s p some = search rules

-- a line begins in the first s places of its group
pub line_start-is : (s p : ℕ) → 0 < s → line_start s p ≡ 4 * s * (p / s / 4) + p % s
line_start-is s p some =
    let q = p / s in
    let split : q ≡ 4 * (q / 4) + q % 4 = omega arith in
    let parts = ap (λ x. x * s) split in
    omega (arith, div-add-mod' p s)

-- where lines begin, the places of the line have that start
pub line_start-member : (s g start k : ℕ) → 0 < s → 4 * s * g ≤ start → start < 4 * s * g + s → k < 4 → line_start s (start + s * k) ≡ start
line_start-member s g start k some from to small =
    let p = start + s * k in
    let offset = start - 4 * s * g in
    let split : p ≡ (4 * g + k) * s + offset = omega arith in
    let quotient : p / s ≡ 4 * g + k = ap (λ n. n / s) split ∙ div-mul-add (4 * g + k) s offset (omega arith) in
    let index : p / s % 4 ≡ k = omega arith in
    let steps = ap (λ n. s * n) index in
    omega arith

-- behind the first s places of a group no line of it begins
pub line_start-in_group : (s g p : ℕ) → 0 < s → line_start s p < 4 * s * (g + 1) → line_start s p < 4 * s * g + s
line_start-in_group s g p some below = by (cases_lt g m)
  where
    m : ℕ
    m = p / s / 4

    by : (g < m) ⊎ (m ≤ g) → line_start s p < 4 * s * g + s
    by (inl later) = let group = mul-le-mul_left (4 * s) later in absurd (omega (arith, line_start-is s p some))
    by (inr earlier) = let group = mul-le-mul_left (4 * s) earlier in omega (arith, line_start-is s p some, mod-lt p some)

-- whole groups make up the block
pub groups_are_whole : (s n : ℕ) → 0 < s → n % (4 * s) ≡ 0 → 4 * s * (n / s / 4) ≡ n
groups_are_whole s n some whole =
    let m = n / (4 * s) in
    let split : n ≡ (4 * m) * s + 0 = omega (arith, div-add-mod' n (4 * s)) in
    let quotient : n / s ≡ 4 * m = ap (λ x. x / s) split ∙ div-mul-add (4 * m) s 0 some in
    let groups : n / s / 4 ≡ m = omega arith in
    let same = ap (λ x. 4 * s * x) groups in
    omega arith

-- a group that is counted is inside
pub group_inside : (s n g : ℕ) → 0 < s → n % (4 * s) ≡ 0 → g < n / s / 4 → 4 * s * (g + 1) ≤ n
group_inside s n g some whole below =
    let next : g + 1 ≤ n / s / 4 = omega arith in
    let groups = mul-le-mul_left (4 * s) next in
    omega (arith, groups_are_whole s n some whole)

-- the neighbours along axis a are 4 ^ a places apart, and a block of more than a dimensions is made of whole groups
pub step_some : (a : ℕ) → 0 < 4 ^ a
step_some a = one-le-pow a 4 (omega arith)

pub step_next : (a : ℕ) → 4 ^ (a + 1) ≡ 4 * 4 ^ a
step_next a = ap (λ e. 4 ^ e) (add-one a) ∙ pow-suc 4 a ∙ omega arith

pub step_below : (a d : ℕ) → a < d → 4 * 4 ^ a ≤ 4 ^ d
step_below a d below = let most : 4 ^ (a + 1) ≤ 4 ^ d = pow-le-pow_right (omega arith) (omega arith) in omega (arith, step_next a)

pub step_whole : (a d : ℕ) → a < d → 4 ^ d % (4 * 4 ^ a) ≡ 0
step_whole a d below =
    let split : d ≡ (d - (a + 1)) + (a + 1) = omega arith in search (rules, pow-add, step_next, mul-mod_left)
