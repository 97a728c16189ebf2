-- Passes over a block of one value, and back over a block of which all values but the first are zero.
use Rattle.std.proofs.Common.{◌≡◌, refl, sym, ap, subst, ◌∙◌, ℕ, zero, suc, ◌+◌, ◌-◌, ◌*◌, ◌/◌, ◌%◌, ◌^◌, ◌<◌, ◌≤◌, ⊎_elim, ℤ, pos, List, [], ◌∷◌, length, get_or, replicate, ext_get_or, arith, rules}
use Rattle.std.{proofs.lemmas.Bool.{cases_lt, cases_eq}, proofs.lemmas.Nat.{div-mul-add, div-add-mod'}}
use Rattle.std.proofs.lemmas.List.{get_or_past, length-replicate, get_or-replicate}
use Rattle.std.proofs.Math.Nat.{pow-suc, mul-le-mul_left, mod-lt, mul-mod_left}
use Rattle.zf_base.proofs.Values.{alike_at}
use Rattle.zf_spec.specs.Lift.{line_value, along, along_axes, along_axes_back}
use Rattle.zf_axes.{proofs.Strides.{step_some}, proofs.LineByLine.{length-along, get_or-along}}
use Rattle.zf_axes.proofs.AxisByAxis.{length-along_axes, length-along_axes_back}

-- a line whose first value alone is not zero becomes a line of that value
abbrev pub Spreads : (ℤ → ℤ → ℤ → ℤ → List ℤ) → ℤ → Type 0
Spreads f v = f v (pos 0) (pos 0) (pos 0) ≡ v ∷ v ∷ v ∷ v ∷ []

-- the multiples of a step have this value, and all other places have zero
record IsSpread (step : ℕ) (v : ℤ) (block : List ℤ) : Type 0 where
  there : (m : ℕ) → step * m < length block → get_or block (step * m) (pos 0) ≡ v
  elsewhere : (m r : ℕ) → 0 < r → r < step → get_or block (step * m + r) (pos 0) ≡ pos 0

-- ---- one pass

four_same : (v : ℤ) (i : ℕ) → i < 4 → get_or (v ∷ v ∷ v ∷ v ∷ []) i (pos 0) ≡ v
four_same v zero small = refl
four_same v (suc zero) small = refl
four_same v (suc (suc zero)) small = refl
four_same v (suc (suc (suc zero))) small = refl
four_same v (suc (suc (suc (suc i)))) small = absurd (omega arith)

-- what becomes of the line of a place, by the values of the line
line_of : (f : ℤ → ℤ → ℤ → ℤ → List ℤ) (step : ℕ) (block : List ℤ) (p start i : ℕ) (a b c e : ℤ) (made : List ℤ)
    → p / step % 4 ≡ i → p - step * i ≡ start → f a b c e ≡ made
    → get_or block (start + step * 0) (pos 0) ≡ a → get_or block (start + step * 1) (pos 0) ≡ b
    → get_or block (start + step * 2) (pos 0) ≡ c → get_or block (start + step * 3) (pos 0) ≡ e
    → line_value f step block p ≡ get_or made i (pos 0)
line_of f step block p start i a b c e made index begins is first second third fourth = search rules

spread_next : (f : ℤ → ℤ → ℤ → ℤ → List ℤ) (step : ℕ) (v : ℤ) (block : List ℤ) → 0 < step → Spreads f v → Spreads f (pos 0)
    → IsSpread (4 * step) v block → IsSpread step v (along f step block)
spread_next f step v block some spreads zeros before = record {
  there = λ m below.
      let p = step * m in
      let start = 4 * step * (m / 4) in
      let inside : p < length block = omega (arith, below, length-along f step block) in
      let turned : p ≡ m * step + 0 = omega arith in
      let quotient : p / step ≡ m = ap (λ k. k / step) turned ∙ div-mul-add m step 0 some in
      let split : m ≡ 4 * (m / 4) + m % 4 = omega arith in
      let parts = ap (λ x. step * x) split in
      let begins : p - step * (m % 4) ≡ start = omega (arith, parts) in
      get_or-along f step block p inside
      ∙ line_of f step block p start (m % 4) v (pos 0) (pos 0) (pos 0) _ (ap (λ k. k % 4) quotient) begins spreads
      (ap (λ q. get_or block q (pos 0)) (omega arith) ∙ before.there (m / 4) (omega arith))
      (before.elsewhere (m / 4) (step * 1) (omega arith) (omega arith))
      (before.elsewhere (m / 4) (step * 2) (omega arith) (omega arith))
      (before.elsewhere (m / 4) (step * 3) (omega arith) (omega arith))
      ∙ four_same v (m % 4) (omega arith);
  elsewhere = λ m r positive small.
      let p = step * m + r in
      let start = 4 * step * (m / 4) + r in
      let turned : p ≡ m * step + r = omega arith in
      let quotient : p / step ≡ m = ap (λ k. k / step) turned ∙ div-mul-add m step r small in
      let split : m ≡ 4 * (m / 4) + m % 4 = omega arith in
      let parts = ap (λ x. step * x) split in
      let begins : p - step * (m % 4) ≡ start = omega (arith, parts) in
      let none : (k : ℕ) → step * k + r < 4 * step → get_or block (start + step * k) (pos 0) ≡ pos 0 =
      λ k below. ap (λ q. get_or block q (pos 0)) (omega arith) ∙ before.elsewhere (m / 4) (r + step * k) (omega arith) (omega arith) in
      ⊎_elim
      (λ (inside : p < length block).
      get_or-along f step block p inside
      ∙ line_of f step block p start (m % 4) (pos 0) (pos 0) (pos 0) (pos 0) _ (ap (λ k. k % 4) quotient) begins zeros
      (none 0 (omega arith)) (none 1 (omega arith)) (none 2 (omega arith)) (none 3 (omega arith))
      ∙ four_same (pos 0) (m % 4) (omega arith))
      (λ (outside : length block ≤ p). get_or_past (along f step block) p (pos 0) (omega (arith, length-along f step block)))
      (cases_lt p (length block));
}

-- ---- all axes

spread_all : (f : ℤ → ℤ → ℤ → ℤ → List ℤ) (v : ℤ) → Spreads f v → Spreads f (pos 0) → (step d : ℕ) (block : List ℤ) → 0 < step
    → IsSpread (step * 4 ^ d) v block → IsSpread step v (along_axes_back f step d block)
spread_all f v spreads zeros step zero block some spread = search rules
spread_all f v spreads zeros step (suc d) block some spread =
    let next : step * 4 ^ suc d ≡ 4 * step * 4 ^ d = ap (λ n. step * n) (pow-suc 4 d) ∙ omega arith in
    spread_next f step v (along_axes_back f (4 * step) d block) some spreads zeros
    (spread_all f v spreads zeros (4 * step) d block (omega arith) (subst (λ s. IsSpread s v block) next spread))

first_alone : (v : ℤ) (n : ℕ) → 0 < n → IsSpread n v (v ∷ replicate (n - 1) (pos 0))
first_alone v n some = record { there = there; elsewhere = elsewhere }
  where
    block : List ℤ
    block = v ∷ replicate (n - 1) (pos 0)

    there : (m : ℕ) → n * m < length block → get_or block (n * m) (pos 0) ≡ v
    there zero below = let none : n * 0 ≡ 0 = omega arith in ap (λ q. get_or block q (pos 0)) none
    there (suc m) below =
        let one : 1 ≤ suc m = omega arith in
        absurd (omega (arith, below, length-replicate (n - 1) (pos 0), mul-le-mul_left n one))

    elsewhere : (m r : ℕ) → 0 < r → r < n → get_or block (n * m + r) (pos 0) ≡ pos 0
    elsewhere m r positive small =
        let behind : n * m + r ≡ suc (n * m + r - 1) = omega arith in
        ap (λ q. get_or block q (pos 0)) behind ∙ alike_at (pos 0) (n - 1) (n * m + r - 1)

-- each value becomes the first one
pub passes_back-first : (f : ℤ → ℤ → ℤ → ℤ → List ℤ) (v : ℤ) (d : ℕ) → Spreads f v → Spreads f (pos 0)
    → along_axes_back f 1 d (v ∷ replicate (4 ^ d - 1) (pos 0)) ≡ replicate (4 ^ d) v
passes_back-first f v d spreads zeros =
    let n = 4 ^ d in
    let some : 0 < n = step_some d in
    let block = v ∷ replicate (n - 1) (pos 0) in
    let all = along_axes_back f 1 d block in
    let whole : n ≡ 1 * n = omega arith in
    let spread = spread_all f v spreads zeros 1 d block (omega arith) (subst (λ s. IsSpread s v block) whole (first_alone v n some)) in
    let long : length all ≡ n = omega (arith, length-along_axes_back f 1 d block, length-replicate (n - 1) (pos 0)) in
    ext_get_or (pos 0) all (replicate n v) (long ∙ sym (length-replicate n v))
    (λ k h.
    let place : k ≡ 1 * k = omega arith in
    ap (λ q. get_or all q (pos 0)) place ∙ spread.there k (omega (arith, h)) ∙ sym (get_or-replicate n k v (pos 0) (omega (arith, h, long))))

-- ---- the way there

-- a line of one value becomes one whose first value alone is not zero
abbrev pub Collects : (ℤ → ℤ → ℤ → ℤ → List ℤ) → ℤ → Type 0
Collects f v = f v v v v ≡ v ∷ pos 0 ∷ pos 0 ∷ pos 0 ∷ []

zero_behind : (v : ℤ) (i : ℕ) → 0 < i → get_or (v ∷ pos 0 ∷ pos 0 ∷ pos 0 ∷ []) i (pos 0) ≡ pos 0
zero_behind v zero later = absurd (omega arith)
zero_behind v (suc zero) later = refl
zero_behind v (suc (suc zero)) later = refl
zero_behind v (suc (suc (suc zero))) later = refl
zero_behind v (suc (suc (suc (suc i)))) later = refl

-- a group that a place lies in is whole
group_of_place : (s n m : ℕ) → 0 < s → n % s ≡ 0 → s * m < n → s * (m + 1) ≤ n
group_of_place s n m some whole inside = search (rules, mul-le-mul_left)

collects_next : (f : ℤ → ℤ → ℤ → ℤ → List ℤ) (step : ℕ) (v : ℤ) (block : List ℤ) → 0 < step → Collects f v → Collects f (pos 0)
    → length block % (4 * step) ≡ 0 → IsSpread step v block → IsSpread (4 * step) v (along f step block)
collects_next f step v block some collects zeros whole before = record { there = there; elsewhere = elsewhere }
  where
    -- the values of a line
    value : (m k : ℕ) → k < 4 → 4 * step * (m + 1) ≤ length block → get_or block (4 * step * m + step * k) (pos 0) ≡ v
    value m k small inside =
        let at : 4 * step * m + step * k ≡ step * (4 * m + k) = omega arith in
        let most : k ≤ 3 = omega arith in
        let last = mul-le-mul_left step most in
        ap (λ q. get_or block q (pos 0)) at ∙ before.there (4 * m + k) (omega arith)

    none : (m r k : ℕ) → 0 < r → r < step → get_or block (4 * step * m + r + step * k) (pos 0) ≡ pos 0
    none m r k positive small =
        let at : 4 * step * m + r + step * k ≡ step * (4 * m + k) + r = omega arith in
        ap (λ q. get_or block q (pos 0)) at ∙ before.elsewhere (4 * m + k) r positive small

    there : (m : ℕ) → 4 * step * m < length (along f step block) → get_or (along f step block) (4 * step * m) (pos 0) ≡ v
    there m below =
        let p = 4 * step * m in
        let inside : p < length block = omega (arith, below, length-along f step block) in
        let group = group_of_place (4 * step) (length block) m (omega arith) whole inside in
        let turned : p ≡ (4 * m) * step + 0 = omega arith in
        let quotient : p / step ≡ 4 * m = ap (λ k. k / step) turned ∙ div-mul-add (4 * m) step 0 some in
        let index : p / step % 4 ≡ 0 = ap (λ k. k % 4) quotient ∙ omega arith in
        let begins : p - step * 0 ≡ p = omega arith in
        get_or-along f step block p inside
        ∙ line_of f step block p p 0 v v v v _ index begins collects (value m 0 (omega arith) group) (value m 1 (omega arith) group) (value m 2 (omega arith) group) (value m 3 (omega arith) group)

    elsewhere : (m r : ℕ) → 0 < r → r < 4 * step → get_or (along f step block) (4 * step * m + r) (pos 0) ≡ pos 0
    elsewhere m r positive small = ⊎_elim
        (λ (inside : p < length block). get_or-along f step block p inside ∙ ⊎_elim
        (λ (on : s ≡ 0).
        let group = group_of_place (4 * step) (length block) m (omega arith) whole (omega arith) in
        let begins : p - step * j ≡ 4 * step * m = omega (arith, on, place) in
        let later : 0 < j = ⊎_elim (λ (first : j ≡ 0). let nothing = ap (λ k. k * step) first in absurd (omega (arith, on, split))) (λ other. omega arith) (cases_eq j 0) in
        line_of f step block p (4 * step * m) j v v v v _ index begins collects (value m 0 (omega arith) group) (value m 1 (omega arith) group) (value m 2 (omega arith) group) (value m 3 (omega arith) group)
        ∙ zero_behind v j later)
        (λ off.
        let begins : p - step * j ≡ 4 * step * m + s = omega (arith, place) in
        let apart : 0 < s = omega arith in
        let less = mod-lt r some in
        line_of f step block p (4 * step * m + s) j (pos 0) (pos 0) (pos 0) (pos 0) _ index begins zeros (none m s 0 apart less) (none m s 1 apart less) (none m s 2 apart less) (none m s 3 apart less)
        ∙ four_same (pos 0) j few)
        (cases_eq s 0))
        (λ (outside : length block ≤ p). get_or_past (along f step block) p (pos 0) (omega (arith, length-along f step block)))
        (cases_lt p (length block))
      where
        p : ℕ
        p = 4 * step * m + r

        j : ℕ
        j = r / step

        s : ℕ
        s = r % step

        split : j * step + s ≡ r
        split = div-add-mod' r step

        few : j < 4
        few = ⊎_elim (λ (below : j < 4). below) (λ (past : 4 ≤ j). absurd (omega (arith, mul-le-mul_left step past, split))) (cases_lt j 4)

        place : p ≡ step * j + (4 * step * m + s)
        place = omega (arith, split)

        index : p / step % 4 ≡ j
        index =
            let turned : p ≡ (4 * m + j) * step + s = omega (arith, split) in
            ap (λ k. k / step % 4) turned ∙ ap (λ k. k % 4) (div-mul-add (4 * m + j) step s (mod-lt r some)) ∙ omega (arith, few)

collects_all : (f : ℤ → ℤ → ℤ → ℤ → List ℤ) (v : ℤ) → Collects f v → Collects f (pos 0) → (step d : ℕ) (block : List ℤ) → 0 < step → length block ≡ step * 4 ^ d
    → IsSpread step v block → IsSpread (step * 4 ^ d) v (along_axes f step d block)
collects_all f v collects zeros step zero block some long spread = search rules
collects_all f v collects zeros step (suc d) block some long spread =
    let next : step * 4 ^ suc d ≡ 4 * step * 4 ^ d = ap (λ n. step * n) (pow-suc 4 d) ∙ omega arith in
    let turned : length block ≡ 4 ^ d * (4 * step) = long ∙ next ∙ omega arith in
    let whole : length block % (4 * step) ≡ 0 = ap (λ n. n % (4 * step)) turned ∙ mul-mod_left (4 ^ d) (4 * step) in
    let passed = along f step block in
    subst (λ s. IsSpread s v (along_axes f (4 * step) d passed)) (sym next)
    (collects_all f v collects zeros (4 * step) d passed (omega arith) (length-along f step block ∙ long ∙ next) (collects_next f step v block some collects zeros whole spread))

-- all values but the first become zero
pub passes-first : (f : ℤ → ℤ → ℤ → ℤ → List ℤ) (v : ℤ) (d : ℕ) → Collects f v → Collects f (pos 0)
    → along_axes f 1 d (replicate (4 ^ d) v) ≡ v ∷ replicate (4 ^ d - 1) (pos 0)
passes-first f v d collects zeros =
    let n = 4 ^ d in
    let some : 0 < n = step_some d in
    let block = replicate n v in
    let all = along_axes f 1 d block in
    let whole : 1 * n ≡ n = omega arith in
    let spread = subst (λ s. IsSpread s v all) whole (collects_all f v collects zeros 1 d block (omega arith) (length-replicate n v ∙ sym whole) (one_value v n)) in
    let long : length all ≡ n = length-along_axes f 1 d block ∙ length-replicate n v in
    ext_get_or (pos 0) all (v ∷ replicate (n - 1) (pos 0)) (omega (arith, long, length-replicate (n - 1) (pos 0)))
    (λ k h. by k (omega (arith, h, long)) some spread long)
  where
    one_value : (v : ℤ) (n : ℕ) → IsSpread 1 v (replicate n v)
    one_value v n = record {
      there = λ m below. let place : 1 * m ≡ m = omega arith in ap (λ q. get_or (replicate n v) q (pos 0)) place ∙ get_or-replicate n m v (pos 0) (omega (arith, below, length-replicate n v));
      elsewhere = λ m r positive small. absurd (omega arith);
    }

    by : {all : List ℤ} {v : ℤ} {n : ℕ} (k : ℕ) → k < n → 0 < n → IsSpread n v all → length all ≡ n → get_or all k (pos 0) ≡ get_or (v ∷ replicate (n - 1) (pos 0)) k (pos 0)
    by {all} {v} {n} zero below some spread long =
        let none : n * 0 ≡ 0 = omega arith in
        subst (λ q. get_or all q (pos 0) ≡ v) none (spread.there 0 (omega (arith, long)))
    by {all} {v} {n} (suc k) below some spread long =
        let behind : n * 0 + suc k ≡ suc k = omega arith in
        subst (λ q. get_or all q (pos 0) ≡ pos 0) behind (spread.elsewhere 0 (suc k) (omega arith) below) ∙ sym (alike_at (pos 0) (n - 1) k)
