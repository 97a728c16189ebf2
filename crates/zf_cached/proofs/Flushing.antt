-- What a flush and a discard leave.
use Rattle.std.proofs.Common.{◌≡◌, refl, sym, ap, ◌∙◌, ℕ, zero, suc, ◌<◌, true, false, Some, ◌⊎◌, inl, inr, ⊎_elim, arith, rules}
use Rattle.std.proofs.lemmas.Bool.{cases_eq}
use Rattle.zf_base.specs.Formats.{Format, meant, encoded, rounded}
use Rattle.zf_base.proofs.Formats.{with_at-same, with_at-other}
use Rattle.zf_cached.{specs.State.{State}, specs.Touch.{write_back, write_back_line}}
use Rattle.zf_cached.{specs.Changes.{write_back_lines, emptied, flush, discard}, specs.Consistency.{IsEmpty}}
use Rattle.zf_cached.proofs.Caching.{true_is_not_false, write_back_line_by, write_back_line-lines, write_back_line-held, write_back_line-clean, write_back_line-keeps_clean}

-- ---- the lines of a cache, one after the other

pub write_back_lines-lines : {Code : Type 0} (format : Format Code) (s : State Code) (n : ℕ) → (write_back_lines format s n).lines ≡ s.lines
unfolding write_back_lines
write_back_lines-lines format s zero = refl
write_back_lines-lines format s (suc n) = write_back_line-lines format (write_back_lines format s n) n ∙ write_back_lines-lines format s n

pub write_back_lines-held : {Code : Type 0} (format : Format Code) (s : State Code) (n : ℕ) → (write_back_lines format s n).held ≡ s.held
unfolding write_back_lines
write_back_lines-held format s zero = refl
write_back_lines-held format s (suc n) = write_back_line-held format (write_back_lines format s n) n ∙ write_back_lines-held format s n

-- no block of the first n lines is dirty
pub write_back_lines-clean : {Code : Type 0} (format : Format Code) (s : State Code) (n l b : ℕ) → l < n → s.held l ≡ Some b → (write_back_lines format s n).dirty b ≡ false
unfolding write_back_lines
write_back_lines-clean format s zero l b below here = absurd (omega arith)
write_back_lines-clean {Code} format s (suc n) l b below here = by (cases_eq l n) (λ h. write_back_lines-clean format s n l b h here)
  where
    by : (l ≡ n) ⊎ (l ≡ n → ⊥) → (l < n → (write_back_lines format s n).dirty b ≡ false) → (write_back_line format (write_back_lines format s n) n).dirty b ≡ false
    by (inl e) before = write_back_line-clean format (write_back_lines format s n) n b (ap (λ f. f n) (write_back_lines-held format s n) ∙ ap s.held (sym e) ∙ here)
    by (inr ne) before = (write_back_line-keeps_clean format (write_back_lines format s n) n b (before (omega arith))).0

-- ---- what becomes of a block

-- it is as it was
abbrev pub IsKept : {Code : Type 0} → State Code → State Code → ℕ → Type 0
IsKept s t b = (t.dirty b ≡ s.dirty b) × (t.values b ≡ s.values b) × (t.codes b ≡ s.codes b)

-- it was dirty, and was written back
abbrev pub IsWritten : {Code : Type 0} → Format Code → State Code → State Code → ℕ → Type 0
IsWritten format s t b = (s.dirty b ≡ true) × (t.dirty b ≡ false) × (t.values b ≡ rounded format b (s.values b)) × (t.codes b ≡ encoded format b (s.values b))

fate : {Code : Type 0} (format : Format Code) (s : State Code) (n b : ℕ) → IsKept s (write_back_lines format s n) b ⊎ IsWritten format s (write_back_lines format s n) b
unfolding write_back_lines write_back rounded
fate format s zero b = inl (refl, refl, refl)
fate {Code} format s (suc n) b = let before = fate format s n b in write_back_line_by format t n (λ u. IsKept s u b ⊎ IsWritten format s u b) (λ a held dirty. written a dirty (cases_eq b a) before) (λ a held clean. before) (λ nothing. before)
  where
    t : State Code
    t = write_back_lines format s n

    written : (a : ℕ) → t.dirty a ≡ true → (b ≡ a) ⊎ (b ≡ a → ⊥) → IsKept s t b ⊎ IsWritten format s t b → IsKept s (write_back format t a) b ⊎ IsWritten format s (write_back format t a) b
    written a dirty (inl e) (inl kept) =
        grind (arith, with_at-same t.dirty a false, with_at-same t.values a (meant format a (encoded format a (t.values a))), with_at-same t.codes a (encoded format a (t.values a)))
    written a dirty (inl e) (inr was) = true_is_not_false (t.dirty a) dirty (ap t.dirty (sym e) ∙ was.1)
    written a dirty (inr ne) (inl kept) = inl (with_at-other t.dirty a false b ne ∙ kept.0, with_at-other t.values a _ b ne ∙ kept.1, with_at-other t.codes a _ b ne ∙ kept.2)
    written a dirty (inr ne) (inr was) = inr (was.0, with_at-other t.dirty a false b ne ∙ was.1, with_at-other t.values a _ b ne ∙ was.2, with_at-other t.codes a _ b ne ∙ was.3)

-- ---- flush

pub flush-lines : {Code : Type 0} (format : Format Code) (s : State Code) → (flush format s).lines ≡ s.lines
unfolding flush emptied
flush-lines format s = write_back_lines-lines format s s.lines

-- a dirty block that is clean after a flush has the code of its values then, and what this code means
pub flush-dirty_codes : {Code : Type 0} (format : Format Code) (s : State Code) (b : ℕ) → (flush format s).dirty b ≡ false → s.dirty b ≡ true
    → ((flush format s).codes b ≡ encoded format b (s.values b)) × ((flush format s).values b ≡ rounded format b (s.values b))
unfolding flush emptied
flush-dirty_codes {Code} format s b cleaned dirty = search (rules, fate, true_is_not_false)

-- a clean block keeps its code and its values
pub flush-clean : {Code : Type 0} (format : Format Code) (s : State Code) (b : ℕ) → s.dirty b ≡ false
    → ((flush format s).codes b ≡ s.codes b) × ((flush format s).values b ≡ s.values b)
unfolding flush emptied
flush-clean format s b clean = ⊎_elim (λ kept. (kept.2, kept.1)) (λ was. true_is_not_false (s.dirty b) was.0 clean) (fate format s s.lines b)

-- lines with nothing in them are not written back
nothing_held : {Code : Type 0} (format : Format Code) (s : State Code) (n : ℕ) → write_back_lines format (emptied s) n ≡ emptied s
unfolding write_back_lines write_back_line emptied
nothing_held format s zero = refl
nothing_held format s (suc n) = ap (λ t. write_back_line format t n) (nothing_held format s n)

-- two flushes are one
pub flush-flush : {Code : Type 0} (format : Format Code) (s : State Code) → flush format (flush format s) ≡ flush format s
unfolding flush emptied
flush-flush format s = ap emptied (nothing_held format (write_back_lines format s s.lines) (write_back_lines format s s.lines).lines)

-- ---- discard

pub discard-empty : {Code : Type 0} (format : Format Code) (s : State Code) → IsEmpty (discard format s)
unfolding discard
discard-empty format s = record { none_dirty = λ b. refl; none_held = λ l b e. absurd (cc) }

-- each block has the values that its code means, where a clean one had them
pub discard-values_by : {Code : Type 0} (format : Format Code) (s : State Code) (b : ℕ) → (s.dirty b ≡ false → s.values b ≡ meant format b (s.codes b)) → (discard format s).values b ≡ meant format b (s.codes b)
unfolding discard
discard-values_by format s b coded = search rules

-- the hits and misses are not changed by write-backs
write_back_lines-touches : {Code : Type 0} (format : Format Code) (s : State Code) (n : ℕ) →
    ((write_back_lines format s n).counts.hits ≡ s.counts.hits) × ((write_back_lines format s n).counts.misses ≡ s.counts.misses)
unfolding write_back_lines write_back
write_back_lines-touches format s zero = (refl, refl)
write_back_lines-touches {Code} format s (suc n) =
    let before = write_back_lines-touches format s n in
    let t = write_back_lines format s n in
    write_back_line_by format t n (λ u. (u.counts.hits ≡ s.counts.hits) × (u.counts.misses ≡ s.counts.misses)) (λ b held dirty. before) (λ b held clean. before) (λ nothing. before)

pub flush-touches : {Code : Type 0} (format : Format Code) (s : State Code) → ((flush format s).counts.hits ≡ s.counts.hits) × ((flush format s).counts.misses ≡ s.counts.misses)
unfolding flush emptied
flush-touches format s = write_back_lines-touches format s s.lines

pub discard-discard : {Code : Type 0} (format : Format Code) (s : State Code) → discard format (discard format s) ≡ discard format s
unfolding discard
discard-discard format s = refl

pub discard-keeps : {Code : Type 0} (format : Format Code) (s : State Code) → ((discard format s).codes ≡ s.codes) × ((discard format s).counts ≡ s.counts) × ((discard format s).lines ≡ s.lines)
unfolding discard
discard-keeps format s = (refl, refl, refl)
