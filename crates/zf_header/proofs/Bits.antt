-- The number in the bits from a place on.
use Rattle.std.proofs.Common.{rules, ◌≡◌, sym, ap, ◌∙◌, ℕ, ◌+◌, ◌-◌, ◌*◌, ◌/◌, ◌%◌, ◌^◌, ◌<◌, ◌≤◌, Bool, List, take, drop, arith}
use Rattle.std.proofs.lemmas.List.{length-take, take-take, drop-take, drop-drop}
use Rattle.std.{proofs.Math.Nat.{pow-le-pow_right}, proofs.lemmas.Nat.{shl_whole}}
use Rattle.zf_spec.{specs.Numbers.{field, number}, proofs.Fields.{number-lt, number-field}}
use Rattle.zf_bits.proofs.Fields.{take-field, drop-field}
use Rattle.zf_header.specs.HeaderFields.{number_at}

-- the number in some bits of a word from a place on, as a shift and a remainder make it
pub number_in_word : (word first shift at n : ℕ) (s : List Bool) → field 64 word ≡ take 64 (drop (8 * first) s) → 8 * first + shift ≡ at → shift + n ≤ 64 → n < 64 → word / 2 ^ shift % (1 * 2 ^ n % 2 ^ 64) ≡ number_at at n s
unfolding number_at
number_in_word word first shift at n s is place within narrow =
    let behind = drop (8 * first) s in
    let parts : shift + (64 - shift) ≡ 64 = omega arith in
    let more : n + (64 - shift - n) ≡ 64 - shift = omega arith in
    let there : take n (drop shift (take 64 behind)) ≡ take n (drop at s) =
    ap (λ k. take n (drop shift (take k behind))) (sym parts) ∙ ap (take n) (drop-take shift (64 - shift) behind)
    ∙ take-take n (64 - shift) (drop shift behind) (omega arith) ∙ ap (take n) (drop-drop shift (8 * first) s ∙ ap (λ k. drop k s) place) in
    let here : take n (drop shift (field 64 word)) ≡ field n (word / 2 ^ shift) =
    ap (λ k. take n (drop shift (field k word))) (sym parts) ∙ ap (take n) (drop-field shift (64 - shift) word)
    ∙ ap (λ k. take n (field k (word / 2 ^ shift))) (sym more) ∙ take-field n (64 - shift - n) (word / 2 ^ shift) in
    let power : 1 * 2 ^ n % 2 ^ 64 ≡ 2 ^ n = shl_whole 1 1 n 64 (omega arith) (omega arith) ∙ omega arith in
    ap (λ k. word / 2 ^ shift % k) power ∙ sym (number-field n (word / 2 ^ shift))
    ∙ ap number (sym here ∙ ap (λ (bs : List Bool). take n (drop shift bs)) is ∙ there)

pub number_at_below : (at n : ℕ) (s : List Bool) → number_at at n s < 2 ^ n
unfolding number_at
number_at_below at n s = search (rules, length-take, number-lt, pow-le-pow_right)
