-- The codes of blocks, whatever their format.
use Rattle.std.proofs.Common.{◌≡◌, ◌≢◌, refl, sym, ap, ◌∙◌, ℕ, ◌<◌, ℤ, pos, cond, Bool, true, false, eq-eqb, List, length, get_or, set, ext_get_or, ◌⊎◌, inl, inr, arith, rules}
use Rattle.std.{proofs.lemmas.Bool.{cases_eq, ne_eqb}, proofs.lemmas.List.{length-set, get_or-set_other}}
use Rattle.zf_spec.proofs.Counting.{length-map-upto, get_or-map-upto, map-upto_same}
use Rattle.zf_base.specs.Formats.{Format, existing_of, meant, encoded, with_at}

-- ---- a function changed at one number

pub with_at-same : {A : Type 0} (f : ℕ → A) (k : ℕ) (a : A) → with_at f k a k ≡ a
unfolding with_at
with_at-same f k a = rw (eq-eqb k k refl, with_at)

pub with_at-other : {A : Type 0} (f : ℕ → A) (k : ℕ) (a : A) (n : ℕ) → n ≢ k → with_at f k a n ≡ f n
unfolding with_at
with_at-other f k a n other = rw (ne_eqb n k other, with_at)

-- ---- the values of a block at the places that exist

pub length-existing_of : {Code : Type 0} (format : Format Code) (b : ℕ) (values : List ℤ) → length (existing_of format b values) ≡ format.block_len
unfolding existing_of
length-existing_of format b values = length-map-upto (λ p. cond (format.exists b p) (get_or values p (pos 0)) (pos 0)) format.block_len

pub get_or-existing_of : {Code : Type 0} (format : Format Code) (b : ℕ) (values : List ℤ) (p : ℕ) → p < format.block_len
    → get_or (existing_of format b values) p (pos 0) ≡ cond (format.exists b p) (get_or values p (pos 0)) (pos 0)
unfolding existing_of
get_or-existing_of format b values p h = get_or-map-upto (λ p. cond (format.exists b p) (get_or values p (pos 0)) (pos 0)) format.block_len p (pos 0) h

pub get_or-existing_of_exists : {Code : Type 0} (format : Format Code) (b : ℕ) (values : List ℤ) (p : ℕ) → p < format.block_len → format.exists b p ≡ true
    → get_or (existing_of format b values) p (pos 0) ≡ get_or values p (pos 0)
get_or-existing_of_exists format b values p h e = get_or-existing_of format b values p h ∙ ap (λ t. cond t (get_or values p (pos 0)) (pos 0)) e

-- blocks that agree at the places that exist have the same existing values
pub existing_of_same : {Code : Type 0} (format : Format Code) (b : ℕ) (xs ys : List ℤ) → ((p : ℕ) → p < format.block_len → format.exists b p ≡ true → get_or xs p (pos 0) ≡ get_or ys p (pos 0))
    → existing_of format b xs ≡ existing_of format b ys
unfolding existing_of
existing_of_same format b xs ys same = search (rules, map-upto_same)

pub existing_of-existing_of : {Code : Type 0} (format : Format Code) (b : ℕ) (values : List ℤ) → existing_of format b (existing_of format b values) ≡ existing_of format b values
existing_of-existing_of format b values = existing_of_same format b (existing_of format b values) values (get_or-existing_of_exists format b values)

-- what a code means is 0 where no place exists
pub existing_of-meant : {Code : Type 0} (format : Format Code) (b : ℕ) (code : Code) → existing_of format b (meant format b code) ≡ meant format b code
unfolding meant
existing_of-meant format b code = existing_of-existing_of format b (format.meaning b code)

-- the code looks at the places that exist alone
pub encoded-existing_of : {Code : Type 0} (format : Format Code) (b : ℕ) (values : List ℤ) → encoded format b (existing_of format b values) ≡ encoded format b values
unfolding encoded
encoded-existing_of format b values = ap (format.encoding b) (existing_of-existing_of format b values)

-- a value may be written where a place exists
pub existing_of-set : {Code : Type 0} (format : Format Code) (b : ℕ) (values : List ℤ) (p : ℕ) (v : ℤ) → format.exists b p ≡ true → existing_of format b values ≡ values
    → existing_of format b (set values p v) ≡ set values p v
existing_of-set format b values p v exists whole =
    let long : length values ≡ format.block_len = sym (ap length whole) ∙ length-existing_of format b values in
    let same : length (set values p v) ≡ format.block_len = length-set values p v ∙ long in
    ext_get_or (pos 0) (existing_of format b (set values p v)) (set values p v) (length-existing_of format b (set values p v) ∙ sym same)
    (λ k h. let below : k < format.block_len = omega (arith, h, length-existing_of format b (set values p v)) in
    get_or-existing_of format b (set values p v) k below ∙ by k below (format.exists b k) refl (cases_eq k p))
  where
    by : (k : ℕ) → k < format.block_len → (t : Bool) → format.exists b k ≡ t → (k ≡ p) ⊎ (k ≡ p → ⊥) → cond t (get_or (set values p v) k (pos 0)) (pos 0) ≡ get_or (set values p v) k (pos 0)
    by k below true e c = refl
    by k below false e (inl same) = absurd (let f : format.exists b p ≡ false = sym (ap (format.exists b) same) ∙ e in cc)
    by k below false e (inr ne) = sym (get_or-set_other values p k v (pos 0) ne ∙ sym (ap (λ vs. get_or vs k (pos 0)) whole) ∙ get_or-existing_of format b values k below ∙ ap (λ t. cond t (get_or values k (pos 0)) (pos 0)) e)
