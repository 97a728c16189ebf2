-- A pass over all blocks misses each of them, where each line has two blocks or more.
use Rattle.std.proofs.Common.{◌≡◌, refl, sym, ap, subst, ◌∙◌, ℕ, zero, suc, ◌+◌, ◌*◌, ◌%◌, ◌<◌, ◌≤◌, Option, Some, ◌⊎◌, inl, inr, ⊎_elim, mod-lt, mod-eq_of_lt, arith, rules}
use Rattle.std.{proofs.Math.Nat.{add-mod_right}, proofs.lemmas.Bool.{cases_eq}}
use Rattle.zf_base.{specs.Formats.{Format, with_at}, proofs.Formats.{with_at-same, with_at-other}}
use Rattle.zf_cached.{specs.State.{State, risen, most_counted, own_line}, specs.Placing.{direct}}
use Rattle.zf_cached.specs.Touch.{touch, miss, write_back, write_back_line}
use Rattle.zf_cached.{specs.Passes.{touched_below, HasLastBlocks}, specs.Consistency.{every, IsConsistent}}
use Rattle.zf_cached.proofs.Caching.{is_block-true, touch-lines, touch_by, write_back_line-held, write_back_line_by}

-- after k touches: a line has one of the last blocks before k, or else one from before the pass, where its first block is still to come
record IsUnderway (n k lines : ℕ) (held : ℕ → Option ℕ) : Type 0 where
  enough : 2 * lines ≤ n
  some : 1 ≤ lines
  blocks : (l b : ℕ) → held l ≡ Some b → (b % lines ≡ l) × (((b < k) × (k ≤ b + lines)) ⊎ ((k ≤ l) × (n ≤ b + lines)))

-- so block k is in no line
not_held : (n k lines : ℕ) (held : ℕ → Option ℕ) → k < n → IsUnderway n k lines held → held (k % lines) ≡ Some k → ⊥
not_held n k lines held below h e = search (rules, mod-lt)

underway_more : (n k lines : ℕ) (held : ℕ → Option ℕ) → k < n → IsUnderway n k lines held → IsUnderway n (suc k) lines (with_at held (k % lines) (Some k))
underway_more n k lines held below h = record { enough = h.enough; some = h.some; blocks = λ l b e. by l b e (cases_eq l (k % lines)) }
  where
    kept : (l b : ℕ) → (l ≡ k % lines → ⊥) → b % lines ≡ l → ((b < k) × (k ≤ b + lines)) ⊎ ((k ≤ l) × (n ≤ b + lines)) → ((b < suc k) × (suc k ≤ b + lines)) ⊎ ((suc k ≤ l) × (n ≤ b + lines))
    kept l b ne own (inl x) =
        let other : k ≡ b + lines → ⊥ = λ e. ne (sym own ∙ sym (add-mod_right b lines) ∙ ap (λ m. m % lines) (sym e)) in
        let y = x.0 in let z = x.1 in inl (omega arith, omega arith)
    kept l b ne own (inr x) = search (rules, cases_eq, mod-lt, mod-eq_of_lt)

    by : (l b : ℕ) → with_at held (k % lines) (Some k) l ≡ Some b → (l ≡ k % lines) ⊎ (l ≡ k % lines → ⊥) → (b % lines ≡ l) × (((b < suc k) × (suc k ≤ b + lines)) ⊎ ((suc k ≤ l) × (n ≤ b + lines)))
    by l b e (inl same) = grind (arith, with_at-same held (k % lines) (Some k))
    by l b e (inr ne) = let old = h.blocks l b (sym (with_at-other held (k % lines) (Some k) l ne) ∙ e) in (old.0, kept l b ne old.0 old.1)

-- ---- a miss

write_back_line-touches : {Code : Type 0} (format : Format Code) (s : State Code) (l : ℕ) → ((write_back_line format s l).counts.hits ≡ s.counts.hits) × ((write_back_line format s l).counts.misses ≡ s.counts.misses)
unfolding write_back
write_back_line-touches format s l = write_back_line_by format s l (λ t. (t.counts.hits ≡ s.counts.hits) × (t.counts.misses ≡ s.counts.misses)) (λ b held dirty. (refl, refl)) (λ b held clean. (refl, refl)) (λ nothing. (refl, refl))

-- what a touch of a block in no line does to the lines and the counts
record Misses {Code : Type 0} (s t : State Code) (b : ℕ) : Type 0 where
  held : t.held ≡ with_at s.held (own_line s b) (Some b)
  hits : t.counts.hits ≡ s.counts.hits
  misses : t.counts.misses ≡ risen s.counts.misses

touch-misses : {Code : Type 0} (format : Format Code) (s : State Code) (b : ℕ) → (s.held (own_line s b) ≡ Some b → ⊥) → Misses s (touch format s b) b
unfolding miss
touch-misses format s b away = touch_by direct format s b (λ t. Misses s t b) (λ here. absurd (away (is_block-true (s.held (own_line s b)) b here)))
    (λ gone. let c = write_back_line-touches format s (own_line s b) in record {
      held = ap (λ f. with_at f (own_line s b) (Some b)) (write_back_line-held format s (own_line s b));
      hits = c.0;
      misses = ap risen c.1;
    })

-- ---- the pass

record Passed {Code : Type 0} (n k : ℕ) (s t : State Code) : Type 0 where
  lines : t.lines ≡ s.lines
  underway : IsUnderway n k s.lines t.held
  hits : t.counts.hits ≡ s.counts.hits
  misses : t.counts.misses ≡ s.counts.misses + k

passed : {Code : Type 0} (format : Format Code) (s : State Code) (n k : ℕ) → k ≤ n → s.counts.misses + n ≤ most_counted → IsUnderway n 0 s.lines s.held → Passed n k s (touched_below format s k)
unfolding touched_below
passed format s n zero below room h = record { lines = refl; underway = h; hits = refl; misses = omega arith }
passed {Code} format s n (suc k) below room h =
    let p = passed format s n k (omega arith) room h in
    let t : State Code = touched_below format s k in
    let own : own_line t k ≡ k % s.lines = ap (λ m. k % m) p.lines in
    let m = touch-misses format t k (λ e. not_held n k s.lines t.held (omega arith) p.underway (ap t.held (sym own) ∙ e)) in
    let held : (touch format t k).held ≡ with_at t.held (k % s.lines) (Some k) = m.held ∙ ap (λ l. with_at t.held l (Some k)) own in
    record {
      lines = touch-lines direct format t k ∙ p.lines;
      underway = subst (IsUnderway n (suc k) s.lines) (sym held) (underway_more n k s.lines t.held (omega arith) p.underway);
      hits = m.hits ∙ p.hits;
      misses = m.misses ∙ (omega arith);
    }

pub pass-misses : {Code : Type 0} (format : Format Code) (s : State Code) (n : ℕ) → IsConsistent direct every format s → HasLastBlocks n s → s.counts.misses + n ≤ most_counted
    → ((touched_below format s n).counts.hits ≡ s.counts.hits) × ((touched_below format s n).counts.misses ≡ s.counts.misses + n) × HasLastBlocks n (touched_below format s n)
pass-misses {Code} format s n c h room =
    let start : IsUnderway n 0 s.lines s.held = record { enough = h.two_for_a_line; some = c.some_line; blocks = λ l b e. (c.in_its_line l b e, inr (omega arith, h.last l b e)) } in
    let p = passed format s n n (omega arith) room start in (
      p.hits,
      p.misses,
      record {
        two_for_a_line = subst (λ m. 2 * m ≤ n) (sym p.lines) h.two_for_a_line;
        last = λ l b e. subst (λ m. n ≤ b + m) (sym p.lines) (⊎_elim (λ x. x.1) (λ x. x.1) (p.underway.blocks l b e).1);
      },
    )
