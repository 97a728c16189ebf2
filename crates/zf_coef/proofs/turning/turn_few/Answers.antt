use Rattle.std.proofs.Common.{◌≡◌, ap, ◌∙◌, ℕ, ◌+◌, ◌-◌, ◌%◌, ◌<◌, ◌≤◌, ⊎_elim, List, take, drop, get_or-take, get_or-drop, length-take, arith}
use Rattle.std.{specs.Int.{bit_at}, proofs.lemmas.Bool.{cases_lt}, proofs.lemmas.List.{get_or_past}, proofs.lemmas.Nat.Bits.{bit_at-zero}}
use Rattle.zf_coef.{specs.Turned.{bit_of, IsTurned}, proofs.AnyDigits.{none_from}}
use Rattle.zf_coef.proofs.turning.turn_few.Goals as goal

-- the first eight rows are all, where the others have no ones
of_first : (old new : List ℕ) → IsTurned 16 (take 8 old) new → ((r k : ℕ) → 0 ≤ k → k < 64 → bit_of (take 8 (drop 8 old)) r k ≡ 0)
    → IsTurned 16 old new
unfolding IsTurned
of_first old new turn none j i a b =
    let place = i - i % 16 + j in
    let r = i % 16 - 8 in
    ⊎_elim
    (λ (first : i % 16 < 8). turn j i a b ∙ ap (λ w. bit_at w place) (get_or-take 8 old (i % 16) 0 first))
    (λ (later : 8 ≤ i % 16).
    let at : 8 + r ≡ i % 16 = omega arith in
    let past = get_or_past (take 8 old) (i % 16) 0 (omega (arith, length-take 8 old)) in
    let same = get_or-take 8 (drop 8 old) r 0 (omega arith) ∙ get_or-drop 8 old r 0 in
    cc (turn j i a b, past, bit_at-zero place, none r place (omega arith) (omega arith), same))
    (cases_lt (i % 16) 8)

pub returns-then-any_digits-eq0 : goal.returns-then-any_digits-eq0
returns-then-any_digits-eq0 c =
    of_first c.args.words.now c.turn_8_of_16.result (rw c.copy_from_slice.ensures.after at c.turn_8_of_16.ensures)
    (none_from c.any_digits.result 0 _ c.any_digits.ensures (omega arith))
