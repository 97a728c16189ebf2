-- The laws of products of whole numbers that std lacks.
use Rattle.std.proofs.Common.{◌≡◌, ◌*◌, zero, suc, ℤ, pos, negsuc, ◌+ℤ◌, ◌*ℤ◌, neg_ℤ, ap, arith}
use Rattle.std.{proofs.lemmas.Int.{ints}, proofs.Math.IntN.{zero-*ℤ}}
use borrow.Author.Differences.{up, down, sum_is_lem, product_is}

pub add-*ℤ : (a b c : ℤ) → (a +ℤ b) *ℤ c ≡ a *ℤ c +ℤ b *ℤ c
add-*ℤ a b c =
    let above = ap (λ n. n * up c) (sum_is_lem a b) in
    let below = ap (λ n. n * down c) (sum_is_lem a b) in
    omega (arith, ints)

pub *ℤ-add : (a b c : ℤ) → a *ℤ (b +ℤ c) ≡ a *ℤ b +ℤ a *ℤ c
*ℤ-add a b c =
    let above = ap (λ n. n * up a) (sum_is_lem b c) in
    let below = ap (λ n. n * down a) (sum_is_lem b c) in
    omega (arith, ints)

pub *ℤ_assoc : (a b c : ℤ) → (a *ℤ b) *ℤ c ≡ a *ℤ (b *ℤ c)
*ℤ_assoc a b c =
    let f = product_is a b in
    let g = product_is b c in
    let ac = ap (λ n. n * up c) f.0 in
    let bc = ap (λ n. n * down c) f.0 in
    let cc' = ap (λ n. n * up c) f.1 in
    let dc = ap (λ n. n * down c) f.1 in
    let ca = ap (λ n. up a * n) g.0 in
    let cb = ap (λ n. down a * n) g.0 in
    let da = ap (λ n. up a * n) g.1 in
    let db = ap (λ n. down a * n) g.1 in
    omega (arith, ints)

pub neg-*ℤ : (a b : ℤ) → neg_ℤ a *ℤ b ≡ neg_ℤ (a *ℤ b)
neg-*ℤ (pos zero) b = cc (zero-*ℤ b)
neg-*ℤ (pos (suc n)) b = omega (arith, ints)
neg-*ℤ (negsuc n) b = omega (arith, ints)
