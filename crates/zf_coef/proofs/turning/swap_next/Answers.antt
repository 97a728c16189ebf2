use Rattle.std.proofs.Common.{◌≡◌, ap, ◌∙◌, ◌+◌, ◌<◌, ◌++◌, ℕ, length, get_or, arith}
use Rattle.std.proofs.lemmas.List.{get_or_append_left, get_or-append_right}
use Rattle.std.proofs.lemmas.Simd.{length-chunk, get_or-chunk}
use lib.Lanes.{chunk}
use Rattle.zf_coef.proofs.Lanes.{pairs_swapped}
use Rattle.zf_coef.proofs.turning.swap_next.Goals as goal

pub returns : goal.returns
returns c =
    let at = c.args.at in
    let words = c.args.words.now in
    let first = chunk at 2 words in
    let second = chunk (at + 2) 2 words in
    let long : length first ≡ 2 = length-chunk at 2 words (omega arith) in
    let lane : ℕ → ℕ = λ k. get_or (first ++ second) k 0 in
    let lower : (k j : ℕ) → k < 2 → at + k ≡ j → lane k ≡ get_or words j 0 =
    λ k j h is. get_or_append_left first second 0 k (omega arith) ∙ get_or-chunk at 2 words k 0 h ∙ ap (λ i. get_or words i 0) is in
    let upper : (k j : ℕ) → k < 2 → at + 2 + k ≡ j → lane (2 + k) ≡ get_or words j 0 =
    λ k j h is. get_or-append_right first second 2 (2 + k) 0 long (omega arith)
    ∙ ap (λ i. get_or second i 0) (omega arith)
    ∙ get_or-chunk (at + 2) 2 words k 0 h
    ∙ ap (λ i. get_or words i 0) is in
    pairs_swapped at c.args.mask words (lane 0) (lane 1) (lane 2) (lane 3) c.requires.within
    (lower 0 at (omega arith) (omega arith)) (lower 1 (at + 1) (omega arith) (omega arith))
    (upper 0 (at + 2) (omega arith) (omega arith)) (upper 1 (at + 3) (omega arith) (omega arith))
