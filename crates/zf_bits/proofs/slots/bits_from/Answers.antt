use Rattle.std.proofs.Common.{◌≡◌, ℕ, List, ◌+◌, ◌-◌, ◌*◌, ◌/◌, ◌%◌, ◌^◌, ◌<◌, ◌≤◌, ◌++◌, false, get_or, length, take, drop, replicate, ap, sym, ◌∙◌, arith}
use Rattle.std.specs.Int.Bits.{bit_or}
use Rattle.zf_spec.specs.Numbers.{field, word_bits}
use Rattle.zf_bits.proofs.Words.{bits_window, shl-shl}
use Rattle.zf_bits.proofs.slots.bits_from.Goals as goal

-- of two words next to one another
window : (words : List ℕ) (at v w : ℕ) → at ≤ 64 * length words → v ≡ get_or words (at / 64) 0 → w ≡ get_or words (at / 64 + 1) 0 → v < 2 ^ 64
    → field 64 (bit_or (v / 2 ^ (at % 64)) (w * 2 ^ (63 - at % 64) % 2 ^ 64 * 2 % 2 ^ 64)) ≡ take 64 (drop at (word_bits words) ++ replicate 64 false)
window words at v w within first second fits =
    let q = at / 64 in
    let s = at % 64 in
    let place : 64 * q + s ≡ at = omega arith in
    let size : 63 - s + 1 ≡ 64 - s = omega arith in
    let high = shl-shl w (63 - s) 1 64 ∙ ap (λ k. w * 2 ^ k % 2 ^ 64) size ∙ ap (λ u. u * 2 ^ (64 - s) % 2 ^ 64) second in
    ap (λ u. field 64 (bit_or (u / 2 ^ s) (w * 2 ^ (63 - s) % 2 ^ 64 * 2 % 2 ^ 64))) first
    ∙ ap (λ t. field 64 (bit_or (get_or words q 0 / 2 ^ s) t)) high
    ∙ bits_window 64 q s (64 - s) words (omega arith) (omega arith) (rw (sym first) fits)
    ∙ ap (λ k. take 64 (drop k (word_bits words) ++ replicate 64 false)) place

pub returns-then-place-words : goal.returns-then-place-words
returns-then-place-words c = window c.args.words.now c.args.at c.word.result c.word-then-place-words.result c.requires c.word.ensures c.word-then-place-words.ensures c.word.type_inv

pub returns : goal.returns
returns c = window c.args.words.now c.args.at c.word_at.result c.word_at-2.result c.requires c.word_at.ensures c.word_at-2.ensures c.word_at.type_inv
