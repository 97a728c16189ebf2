use Rattle.std.proofs.Common.{◌≡◌, ◌-◌, ◌*◌, length, get_or, take, arith, rules, List, ℕ, ◌≤◌}
use Rattle.std.proofs.lemmas.List.{length-take-le}
use Rattle.zf_spec.{specs.Numbers.{word_bits}, proofs.WordBits.{length-word_bits}}
use Rattle.zf_store.proofs.Joined.{one_word, word_behind, word_before, word_between}
use Rattle.zf_store.proofs.words.joined_word.Goals as goal

-- the bits of a run within its words
length-run : (words : List ℕ) (n : ℕ) → n ≤ 64 * length words → length (take n (word_bits words)) ≡ n
length-run words n within = length-take-le n (word_bits words) (omega (arith, length-word_bits words))

pub returns-then-prefix_len-at : goal.returns-then-prefix_len-at
returns-then-prefix_len-at c = let long = length-run c.args.prefix.now c.args.prefix_len (omega arith) in search (rules, word_behind)

pub returns-then-at-prefix_len : goal.returns-then-at-prefix_len
returns-then-at-prefix_len c = let long = length-run c.args.prefix.now c.args.prefix_len (omega arith) in search (rules, word_before)

pub returns : goal.returns
returns c =
    let long = length-run c.args.prefix.now c.args.prefix_len (omega arith) in
    word_between (take c.args.prefix_len (word_bits c.args.prefix.now)) (take c.args.len (word_bits c.args.words.now)) (64 * c.args.i) c.from.result (64 - (c.args.prefix_len - 64 * c.args.i)) c.word_of_run-word.result c.word_of_run-2.result (get_or c.put_bits.new.words 0 0) (word_bits c.put_bits.new.words)
    (omega (arith, c.if-prefix_len-at.false, long)) (omega (arith, c.from.ensures, long)) (omega (arith, c.from.ensures)) (omega (arith, c.from.ensures, c.if-at-prefix_len.false))
    c.word_of_run-word.ensures c.word_of_run-2.ensures c.put_bits.ensures.bits (one_word c.put_bits.new.words c.put_bits.ensures.len)
