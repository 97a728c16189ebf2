-- Words whose bits are swapped between pairs of them, s apart.
use Rattle.std.proofs.Common.{rules, ◌≡◌, sym, ap, ◌∙◌, ℕ, ◌+◌, ◌-◌, ◌*◌, ◌/◌, ◌%◌, ◌^◌, ◌<◌, ◌≤◌, ◌≢◌, min, ⊎_elim, List, length, get_or, arith, inl, inr, subst}
use Rattle.std.{proofs.lemmas.Bool.{cases_lt, cases_eq}, specs.Int.{bit_at}}
use Rattle.std.proofs.lemmas.Nat.Bits.{bit_at_and, bit_at_xor, bit_at-lt}
use Rattle.zf_coef.proofs.ShiftedBits.{bit_at-shr, bit_at-mod, bit_at-shl_low, bit_at-shl_high}
use Rattle.zf_coef.specs.Turned.{moved, swapped_low, swapped_high, IsSwapped, IsStep, IsMask, with_digit, IsStepped}

-- ---- bits of swapped words

pub bit_at-moved : (s m a b i : ℕ) → bit_at (moved s m a b) i ≡ min ((bit_at a (s + i) + bit_at b i) % 2) (bit_at m i)
bit_at-moved s m a b i = search (rules, bit_at_and, bit_at_xor, bit_at-shr)

-- the upper word, where the mask has a one and where it has none
high_taken : (s m a b i : ℕ) → bit_at m i ≡ 1 → bit_at (swapped_high s m a b) i ≡ bit_at a (s + i)
high_taken s m a b i one = search (rules, bit_at_xor, bit_at-moved, bit_at-lt)

high_kept : (s m a b i : ℕ) → bit_at m i ≡ 0 → bit_at (swapped_high s m a b) i ≡ bit_at b i
high_kept s m a b i none =
    omega (arith, bit_at_xor b (moved s m a b) i, bit_at-moved s m a b i, none, bit_at-lt b i)

-- the lower word
low_first : (s m a b i : ℕ) → i < s → i < 64 → bit_at (swapped_low s m a b) i ≡ bit_at a i
low_first s m a b i small within = search (rules, bit_at_xor, bit_at-mod, bit_at-shl_low, bit_at-lt)

low_kept : (s m a b i : ℕ) → s ≤ i → i < 64 → bit_at m (i - s) ≡ 0 → bit_at (swapped_low s m a b) i ≡ bit_at a i
low_kept s m a b i large within none = search (rules, bit_at_xor, bit_at-mod, bit_at-shl_high, bit_at-moved, bit_at-lt)

low_taken : (s m a b i : ℕ) → s ≤ i → i < 64 → bit_at m (i - s) ≡ 1 → bit_at (swapped_low s m a b) i ≡ bit_at b (i - s)
low_taken s m a b i large within one =
    let t = moved s m a b in
    let same : bit_at a (s + (i - s)) ≡ bit_at a i = ap (bit_at a) (omega arith) in
    let first = bit_at_xor a (t * 2 ^ s % 2 ^ 64) i in
    let back : bit_at (t * 2 ^ s % 2 ^ 64) i ≡ bit_at t (i - s) =
    bit_at-mod (t * 2 ^ s) i within ∙ bit_at-shl_high t s i large in
    omega (arith, bit_at-moved s m a b (i - s), bit_at-lt a i, bit_at-lt b (i - s))

-- ---- where the words of a step stand

-- how many pairs come before that of word j
abbrev pub pair_of : ℕ → ℕ → ℕ
pair_of s j = j / (2 * s) * s + j % s

-- so many pairs at a time, with what is known of numbers s apart
pub record Paired (lanes s : ℕ) : Type 0 where
  pub positive : 0 < s
  pub small : s < 64
  pub pair_low : (done l : ℕ) → done % lanes ≡ 0 → l < lanes → pair_of s (done + done / s * s + l) ≡ done + l
  pub pair_high : (done l : ℕ) → done % lanes ≡ 0 → l < lanes → pair_of s (done + done / s * s + s + l) ≡ done + l
  pub place : (done j : ℕ) → done % lanes ≡ 0 → done ≤ pair_of s j → pair_of s j < done + lanes → j ≡ done + done / s * s + (j / s % 2 * s) + (pair_of s j - done)
  pub pairs : (n j : ℕ) → n % (2 * s) ≡ 0 → j < n → pair_of s j < n / 2
  pub in_words : (n done : ℕ) → n % (2 * s) ≡ 0 → done % lanes ≡ 0 → done < n / 2 → done + done / s * s + s + lanes ≤ n
  pub word_kept : (j i : ℕ) → j / s % 2 ≡ i / s % 2 → with_digit s j i ≡ j
  pub word_up : (j i : ℕ) → j / s % 2 ≡ 0 → i / s % 2 ≡ 1 → with_digit s j i ≡ j + s
  pub word_down : (j i : ℕ) → j / s % 2 ≡ 1 → i / s % 2 ≡ 0 → (s ≤ j) × (with_digit s j i ≡ j - s)
  pub digit_less : (i : ℕ) → s ≤ i → (i - s) / s % 2 ≡ 1 - i / s % 2

pub paired_1 : Paired 1 1
paired_1 = search rules

pub paired : (s : ℕ) → IsStep s → Paired 2 s
paired s (inl e) = subst (Paired 2) (sym e) (search rules)
paired s (inr (inl e)) = subst (Paired 2) (sym e) (search rules)
paired s (inr (inr (inl e))) = subst (Paired 2) (sym e) (search rules)
paired s (inr (inr (inr e))) = subst (Paired 2) (sym e) (search rules)

-- the pairs go up in lanes
pub in_lanes : (s n : ℕ) → IsStep s → n % (2 * s) ≡ 0 → n % 4 ≡ 0
in_lanes s n step = search rules

-- ---- the loop of a step

-- the words of the first pairs are swapped, and the others are as they were
pub record HasStepped (s m done : ℕ) (old new : List ℕ) : Type 0 where
  pub long : length new ≡ length old
  pub lower : (j : ℕ) → pair_of s j < done → j / s % 2 ≡ 0 → get_or new j 0 ≡ swapped_low s m (get_or old j 0) (get_or old (j + s) 0)
  pub upper : (j : ℕ) → pair_of s j < done → j / s % 2 ≡ 1 → get_or new j 0 ≡ swapped_high s m (get_or old (j - s) 0) (get_or old j 0)
  pub rest : (j : ℕ) → done ≤ pair_of s j → get_or new j 0 ≡ get_or old j 0

pub more_stepped : (lanes s m done : ℕ) (old mid new : List ℕ) → Paired lanes s → done % lanes ≡ 0
    → HasStepped s m done old mid
    → IsSwapped lanes (done + done / s * s) (done + done / s * s + s) s m mid new
    → HasStepped s m (done + lanes) old new
more_stepped lanes s m done old mid new p whole prefix swap =
    let low = done + done / s * s in
    let high = low + s in
    let kept : (j : ℕ) → ((l : ℕ) → l < lanes → pair_of s j ≢ done + l) → get_or new j 0 ≡ get_or mid j 0 =
    λ j apart. swap.other j
    (λ l h e. apart l h (ap (pair_of s) e ∙ p.pair_low done l whole h))
    (λ l h e. apart l h (ap (pair_of s) e ∙ p.pair_high done l whole h)) in
    let fresh_low : (l : ℕ) → l < lanes → get_or mid (low + l) 0 ≡ get_or old (low + l) 0 =
    λ l h. prefix.rest (low + l) (omega (arith, p.pair_low done l whole h)) in
    let fresh_high : (l : ℕ) → l < lanes → get_or mid (high + l) 0 ≡ get_or old (high + l) 0 =
    λ l h. prefix.rest (high + l) (omega (arith, p.pair_high done l whole h)) in
    record {
      long = swap.long ∙ prefix.long;
      lower = λ j h half. ⊎_elim
          (λ earlier. kept j (λ l less e. absurd (omega arith)) ∙ prefix.lower j earlier half)
          (λ later.
          let l = pair_of s j - done in
          let less : l < lanes = omega arith in
          let none : j / s % 2 * s ≡ 0 = ap (λ x. x * s) half ∙ omega arith in
          let at : j ≡ low + l = omega (arith, p.place done j whole later h, none) in
          let above : high + l ≡ j + s = omega arith in
          cc (swap.lower l less, fresh_low l less, fresh_high l less))
          (cases_lt (pair_of s j) done);
      upper = λ j h half. ⊎_elim
          (λ earlier. kept j (λ l less e. absurd (omega arith)) ∙ prefix.upper j earlier half)
          (λ later.
          let l = pair_of s j - done in
          let less : l < lanes = omega arith in
          let one : j / s % 2 * s ≡ s = ap (λ x. x * s) half ∙ omega arith in
          let at : j ≡ high + l = omega (arith, p.place done j whole later h, one) in
          let below : low + l ≡ j - s = omega arith in
          cc (swap.upper l less, fresh_low l less, fresh_high l less))
          (cases_lt (pair_of s j) done);
      rest = λ j h. kept j (λ l less e. absurd (omega arith)) ∙ prefix.rest j (omega arith);
    }

-- all pairs: bits of numbers that differ in the digit at s have changed places
pub all_stepped : (lanes s m done : ℕ) (old new : List ℕ) → Paired lanes s → IsMask s m
    → length old % (2 * s) ≡ 0 → done ≡ length old / 2 → HasStepped s m done old new → IsStepped s old new
unfolding IsStepped
all_stepped lanes s m done old new p mask whole all prefix j i below within =
    let in_pairs : pair_of s j < done = omega (arith, p.pairs (length old) j whole below) in
    ⊎_elim
    (λ (word : j / s % 2 ≡ 0).
    let is = prefix.lower j in_pairs word in
    ⊎_elim
    (λ (bit : i / s % 2 ≡ 0).
    rw (p.word_kept j i (word ∙ sym bit), p.word_kept i j (bit ∙ sym word), is)
    (⊎_elim
    (λ first. low_first s m (get_or old j 0) (get_or old (j + s) 0) i first within)
    (λ far. low_kept s m (get_or old j 0) (get_or old (j + s) 0) i far within (omega (arith, mask (i - s) (omega arith), p.digit_less i far)))
    (cases_lt i s)))
    (λ (bit : i / s % 2 ≢ 0).
    let one : i / s % 2 ≡ 1 = omega arith in
    let down = p.word_down i j one word in
    rw (p.word_up j i word one, down.1, is)
    (low_taken s m (get_or old j 0) (get_or old (j + s) 0) i down.0 within
    (omega (arith, mask (i - s) (omega arith), p.digit_less i down.0))))
    (cases_eq (i / s % 2) 0))
    (λ (word : j / s % 2 ≢ 0).
    let one : j / s % 2 ≡ 1 = omega arith in
    let is = prefix.upper j in_pairs one in
    ⊎_elim
    (λ (bit : i / s % 2 ≡ 0).
    let down = p.word_down j i one bit in
    let place : s + i ≡ i + s = omega arith in
    rw (p.word_up i j bit one, down.1, is)
    (high_taken s m (get_or old (j - s) 0) (get_or old j 0) i (omega (arith, mask i within))
    ∙ ap (bit_at (get_or old (j - s) 0)) place))
    (λ (bit : i / s % 2 ≢ 0).
    let two : i / s % 2 ≡ 1 = omega arith in
    rw (p.word_kept j i (one ∙ sym two), p.word_kept i j (two ∙ sym one), is)
    (high_kept s m (get_or old (j - s) 0) (get_or old j 0) i (omega (arith, mask i within))))
    (cases_eq (i / s % 2) 0))
    (cases_eq (j / s % 2) 0)
