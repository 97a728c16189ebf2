-- Places of codes that stand one after another.
use Rattle.std.proofs.Common.{◌≡◌, refl, ap, ◌∙◌, ℕ, zero, suc, ◌+◌, ◌-◌, ◌*◌, ◌<◌, ◌≤◌, List, [], ◌∷◌, ◌++◌, length, suc-mul, arith}
use Rattle.std.proofs.lemmas.List.{get_or_append_left, get_or-replicate}
use Rattle.std.proofs.Math.Seq.{get_or-append_seam}
use Rattle.zf_index.specs.Spans.{Index, len_at, place, even_index}

-- the next place
pub place-next : (i : Index) (b : ℕ) → place i (b + 1) ≡ place i b + len_at i b
place-next i b = let next : b + 1 ≡ suc b = omega arith in ap (place i) next

-- places rise
place-more : (i : Index) (a n : ℕ) → place i a ≤ place i (a + n)
place-more i a zero = let same : a + 0 ≡ a = omega arith in omega (arith, ap (place i) same)
place-more i a (suc n) = let next : a + suc n ≡ suc (a + n) = omega arith in omega (arith, place-more i a n, ap (place i) next)

pub place-le : (i : Index) (a b : ℕ) → a ≤ b → place i a ≤ place i b
place-le i a b le = let sum : a + (b - a) ≡ b = omega arith in omega (arith, place-more i a (b - a), ap (place i) sum)

-- a code that ends before the last one does ends there
pub ends_within : (i : Index) (b n : ℕ) → b < n → place i b + len_at i b ≤ place i n
ends_within i b n lt = omega (arith, place-le i (b + 1) n (omega arith), place-next i b)

-- a code behind the others changes none of their places
pub len-push : (s : ℕ) (xs : List ℕ) (n b : ℕ) → b < length xs → len_at (record { start = s; lens = xs ++ n ∷ [] }) b ≡ len_at (record { start = s; lens = xs }) b
len-push s xs n b lt = get_or_append_left xs (n ∷ []) 0 b lt

pub len-last : (s : ℕ) (xs : List ℕ) (n : ℕ) → len_at (record { start = s; lens = xs ++ n ∷ [] }) (length xs) ≡ n
len-last s xs n = get_or-append_seam xs n [] 0

pub place-push : (s : ℕ) (xs : List ℕ) (n b : ℕ) → b ≤ length xs → place (record { start = s; lens = xs ++ n ∷ [] }) b ≡ place (record { start = s; lens = xs }) b
place-push s xs n zero le = refl
place-push s xs n (suc b) le =
    ap (λ k. k + len_at (record { start = s; lens = xs ++ n ∷ [] }) b) (place-push s xs n b (omega arith))
    ∙ ap (λ k. place (record { start = s; lens = xs }) b + k) (len-push s xs n b (omega arith))

-- codes of as many bits each
pub even_len : (start len count b : ℕ) → b < count → len_at (even_index start len count) b ≡ len
even_len start len count b lt = get_or-replicate count b len 0 lt

pub even_place : (start len count b : ℕ) → b ≤ count → place (even_index start len count) b ≡ start + b * len
even_place start len count zero le = omega arith
even_place start len count (suc b) le =
    omega (arith, even_place start len count b (omega (arith, le)), even_len start len count b (omega (arith, le)), suc-mul b len)
