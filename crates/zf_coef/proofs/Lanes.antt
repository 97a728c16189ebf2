-- Words that are swapped in lanes of two.
use Rattle.std.proofs.Common.{rules, ◌≡◌, refl, sym, ◌∙◌, ℕ, ◌+◌, ◌*◌, ◌/◌, ◌%◌, ◌^◌, ◌<◌, ◌≤◌, ◌≢◌, List, [], ◌∷◌, length, get_or, replicate, arith}
use Rattle.std.{proofs.lemmas.Bool.{cases_lt, cases_eq}, specs.Int.RustNames.{bit_xor}}
use Rattle.std.proofs.lemmas.Simd.{length-chunk, get_or-chunk, length-zip2, get_or-zip2, get_or-replicate, length-put_chunk, get_or-put_chunk_at, get_or-put_chunk_below, get_or-put_chunk_above}
use lib.Bits.{bit_and}
use lib.Lanes.{zip2, chunk, put_chunk}
use Rattle.zf_coef.specs.Turned.{swapped_low, swapped_high, IsSwapped, AreSwapped}

-- the bits that are moved, of each lane
abbrev pub moved_lanes : ℕ → ℕ → List ℕ → List ℕ → List ℕ
moved_lanes s m as' bs = zip2 bit_and (zip2 bit_xor (zip2 (λ x k. x / 2 ^ k) as' (replicate 2 s)) bs) (replicate 2 m)

abbrev pub high_lanes : ℕ → ℕ → List ℕ → List ℕ → List ℕ
high_lanes s m as' bs = zip2 bit_xor bs (moved_lanes s m as' bs)

abbrev pub low_lanes : ℕ → ℕ → List ℕ → List ℕ → List ℕ
low_lanes s m as' bs = zip2 bit_xor as' (zip2 (λ x k. x * 2 ^ k % 2 ^ 64) (moved_lanes s m as' bs) (replicate 2 s))

-- a lane of two vectors
get_or-both : (f : ℕ → ℕ → ℕ) (xs ys : List ℕ) (l : ℕ) → length xs ≡ 2 → length ys ≡ 2 → l < 2 → get_or (zip2 f xs ys) l 0 ≡ f (get_or xs l 0) (get_or ys l 0)
get_or-both f xs ys l a b h = get_or-zip2 f xs ys l 0 0 0 (omega arith) (omega arith)

length-both : (f : ℕ → ℕ → ℕ) (xs ys : List ℕ) → length xs ≡ 2 → length ys ≡ 2 → length (zip2 f xs ys) ≡ 2
length-both f xs ys a b = length-zip2 f xs ys (a ∙ sym b) ∙ a

two : (k : ℕ) → length (replicate 2 k) ≡ 2
two k = refl

get_or-two : (k l : ℕ) → l < 2 → get_or (replicate 2 k) l 0 ≡ k
get_or-two k l h = get_or-replicate 2 l k 0 h

record Lanes (s m : ℕ) (as' bs : List ℕ) (l : ℕ) : Type 0 where
  pub lower : get_or (low_lanes s m as' bs) l 0 ≡ swapped_low s m (get_or as' l 0) (get_or bs l 0)
  pub upper : get_or (high_lanes s m as' bs) l 0 ≡ swapped_high s m (get_or as' l 0) (get_or bs l 0)
  pub long_lower : length (low_lanes s m as' bs) ≡ 2
  pub long_upper : length (high_lanes s m as' bs) ≡ 2

each_lane : (s m : ℕ) (as' bs : List ℕ) (l : ℕ) → length as' ≡ 2 → length bs ≡ 2 → l < 2 → Lanes s m as' bs l
each_lane s m as' bs l long_a long_b h = search (rules, length-both, two, get_or-both, get_or-two)

-- where nothing was stored
outside : (at : ℕ) (xs ys : List ℕ) (j : ℕ) → length ys ≡ 2 → ((l : ℕ) → l < 2 → j ≢ at + l) → get_or (put_chunk at xs ys) j 0 ≡ get_or xs j 0
outside at xs ys j long apart = search (rules, get_or-put_chunk_below, get_or-put_chunk_above, cases_lt)

-- two vectors that are stored where they were loaded
pub lanes_swapped : (low high s m : ℕ) (words : List ℕ) → low + 2 ≤ high → high + 2 ≤ length words
    → IsSwapped 2 low high s m words
    (put_chunk low (put_chunk high words (high_lanes s m (chunk low 2 words) (chunk high 2 words))) (low_lanes s m (chunk low 2 words) (chunk high 2 words)))
lanes_swapped low high s m words apart within =
    let as' = chunk low 2 words in
    let bs = chunk high 2 words in
    let long_a : length as' ≡ 2 = length-chunk low 2 words (omega arith) in
    let long_b : length bs ≡ 2 = length-chunk high 2 words within in
    let lane = λ (l : ℕ) (h : l < 2). each_lane s m as' bs l long_a long_b h in
    let first = lane 0 (omega arith) in
    let mid = put_chunk high words (high_lanes s m as' bs) in
    let long_mid : length mid ≡ length words = length-put_chunk high words (high_lanes s m as' bs) in
    let at_a : (l : ℕ) → l < 2 → get_or as' l 0 ≡ get_or words (low + l) 0 = λ l h. get_or-chunk low 2 words l 0 h in
    let at_b : (l : ℕ) → l < 2 → get_or bs l 0 ≡ get_or words (high + l) 0 = λ l h. get_or-chunk high 2 words l 0 h in
    record {
      long = length-put_chunk low mid (low_lanes s m as' bs) ∙ long_mid;
      lower = λ l h.
          let long = first.long_lower in
          let put = get_or-put_chunk_at low mid (low_lanes s m as' bs) l 0 (omega arith) (omega arith) in
          cc ((lane l h).lower, at_a l h, at_b l h);
      upper = search (rules, get_or-put_chunk_above, get_or-put_chunk_at);
      other = search (rules, outside);
    }

-- ---- words that stand next to each other

-- a word and the one behind it
next_swapped : (at m : ℕ) (words : List ℕ) (a b : ℕ) → at + 2 ≤ length words → a ≡ get_or words at 0 → b ≡ get_or words (at + 1) 0
    → IsSwapped 1 at (at + 1) 1 m words (put_chunk at words (swapped_low 1 m a b ∷ swapped_high 1 m a b ∷ []))
next_swapped at m words a b within is_a is_b = search (rules, get_or-put_chunk_at, length-put_chunk, outside, cases_eq)

-- two such pairs, which are stored where they were loaded
pub pairs_swapped : (at m : ℕ) (words : List ℕ) (a b c d : ℕ) → at + 4 ≤ length words
    → a ≡ get_or words at 0 → b ≡ get_or words (at + 1) 0 → c ≡ get_or words (at + 2) 0 → d ≡ get_or words (at + 3) 0
    → AreSwapped at m words
    (put_chunk (at + 2) (put_chunk at words (swapped_low 1 m a b ∷ swapped_high 1 m a b ∷ [])) (swapped_low 1 m c d ∷ swapped_high 1 m c d ∷ []))
pairs_swapped at m words a b c d within is_a is_b is_c is_d = grind (arith, length-put_chunk, get_or-put_chunk_above, next_swapped)
