use Rattle.std.proofs.Common.{◌≡◌, ◌+◌, ◌-◌, ◌*◌, ◌/◌, ◌^◌, sym, ap, ◌∙◌, arith}
use lib.Bits.{bit_and}
use Rattle.std.proofs.lemmas.Nat.{shr_high}
use Rattle.zf_bits.specs.Reader.{rest}
use Rattle.zf_planes.proofs.Peeking.{peeked}
use Rattle.zf_planes.{specs.Spread.{turned}, proofs.TurnedPairs.{turned-lt}}
use Rattle.zf_block.proofs.TurnedDigits.{digits_read, group_bits, group_bits_shown, turned-add}
use Rattle.zf_block.proofs.first_code.next_digits.Goals as goal

pub returns : goal.returns
returns c =
    let count = c.args.count in
    let unseen = 32 - count in
    let word = c.peek-word.result in
    let all : unseen + count ≡ 32 = omega arith in
    let turned_all : count + unseen ≡ 32 = omega arith in
    let clear : bit_and word (group_bits count) ≡ 0 = ap (bit_and word) (sym (group_bits_shown unseen count all)) ∙ c.if-word-unseen-ne0.false in
    let is : c.turned_digits.result / 2 ^ unseen ≡ turned count word =
    ap (λ p. p / 2 ^ unseen) (c.turned_digits.ensures ∙ ap (λ k. turned k word) (sym turned_all) ∙ turned-add count unseen word)
    ∙ shr_high (turned count word) unseen (turned unseen (word / 2 ^ (2 * count))) (turned-lt unseen (word / 2 ^ (2 * count))) in
    digits_read word count (c.turned_digits.result / 2 ^ unseen) clear is (peeked (rest c.args.place.now) word (2 * count) c.peek-word.ensures (omega arith) (omega (arith, c.left.ensures.count))) (rw c.from-len.ensures at c.skip.ensures)
