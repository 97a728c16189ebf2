use Rattle.std.proofs.Common.{◌≡◌, ℕ, ◌+◌, ◌*◌, ◌/◌, ◌≤◌, List, ◌∷◌, ◌++◌, [], length, take, drop, set, ap, sym, subst, ◌∙◌, arith, rules}
use Rattle.std.proofs.lemmas.List.{take_more_set, take_all, take_rest, length-set, length-drop}
use Rattle.zf_bits.{specs.Packing.{word_of, words_from}, proofs.Packed.{words_from-more, word_of-eight}}
use Rattle.zf_bits.proofs.packing.put_words.Goals as goal

-- one word more of the first ones
one_more : (words bytes : List ℕ) (i word : ℕ) → i + 1 ≤ length words → take i words ≡ words_from i bytes → word ≡ word_of (drop (8 * i) bytes)
    → take (i + 1) (set words i word) ≡ words_from (i + 1) bytes
one_more words bytes i word within so_far is =
    take_more_set words i word (omega arith) ∙ ap (λ (ws : List ℕ). ws ++ word ∷ []) so_far ∙ ap (λ v. words_from i bytes ++ v ∷ []) is ∙ sym (words_from-more i bytes)

pub loop-i-preserved : goal.loop-i-preserved
loop-i-preserved c = search (rules, word_of-eight, length-drop, one_more)

pub returns-then-whole-words : goal.returns-then-whole-words
returns-then-whole-words c =
    let bytes = c.args.bytes.now in
    let words = c.loop-i.words in
    let whole = length bytes / 8 in
    let v = c.word_of_bytes-then-whole-words.result in
    let all : c.loop-i.i ≡ whole = omega (arith, c.loop-i-test.false, c.loop-i.auto.i-end) in
    let count : whole + 1 ≡ length c.args.words.now = omega (arith, c.if-whole-words.true, c.loop-i.auto.words, c.requires.no_more) in
    let So : ℕ → Type 0 = λ n. take n words ≡ words_from n bytes in
    let word : v ≡ word_of (drop (8 * whole) bytes) = c.word_of_bytes-then-whole-words.ensures ∙ ap word_of (take_rest bytes (8 * whole)) in
    sym (take_all (whole + 1) (set words whole v) (omega (arith, length-set words whole v, count, c.loop-i.auto.words)))
    ∙ one_more words bytes whole v (omega (arith, count, c.loop-i.auto.words)) (subst So all c.loop-i.invariant) word
    ∙ ap (λ n. words_from n bytes) count
