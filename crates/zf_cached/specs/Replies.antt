-- What a line of a script answers, and the text of it.
use Rattle.std.specs.Prelude.{ℕ, ℤ, List, ◌++◌, codes, decimal}
use Rattle.std.specs.Fmt.{signed_decimal}

-- why a line is refused
pub data Refusal : Type 0 where
  word : Refusal
  split : Refusal
  size : Refusal
  range : Refusal
  value : Refusal
  memory : Refusal

-- a number; the counts hits, misses and writes; a refusal
pub data Reply : Type 0 where
  number : ℤ → Reply
  counts : ℕ → ℕ → ℕ → Reply
  refused : Refusal → Reply

-- the word of a refusal
abbrev pub refusal_word : Refusal → List ℕ
refusal_word Refusal.word = codes "word"
refusal_word Refusal.split = codes "split"
refusal_word Refusal.size = codes "size"
refusal_word Refusal.range = codes "range"
refusal_word Refusal.value = codes "value"
refusal_word Refusal.memory = codes "memory"

-- the text of counts
abbrev pub counts_text : ℕ → ℕ → ℕ → List ℕ
counts_text hits misses writes =
    codes "hits " ++ decimal hits ++ codes " misses " ++ decimal misses ++ codes " writes " ++ decimal writes

-- the text of a reply: one line with its line feed
abbrev pub reply_text : Reply → List ℕ
reply_text (Reply.number n) = signed_decimal n ++ codes "\n"
reply_text (Reply.counts hits misses writes) = counts_text hits misses writes ++ codes "\n"
reply_text (Reply.refused why) = codes "! " ++ refusal_word why ++ codes "\n"
