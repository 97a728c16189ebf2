-- Words that hold bits and then zeros, as a writer has them.
use Rattle.std.{proofs.lemmas.Grind.{common_steps}, specs.Int.Bits.{bit_or}, specs.Int.{div_ceil}}
use Rattle.std.proofs.Common.{◌≡◌, ℕ, suc, ◌+◌, ◌-◌, ◌*◌, ◌/◌, ◌%◌, ◌^◌, ◌<◌, ◌≤◌, Bool, false, List, [], ◌++◌, length, get_or, set, take, drop, replicate, refl, sym, ap, ◌∙◌, arith, append_assoc, length-append, length-drop, length-set, rules}
use Rattle.std.{proofs.lemmas.Nat.{shr-shr}, proofs.lemmas.List.Concat.{flat_map-append}}
use Rattle.std.proofs.lemmas.List.{take_all, take-append-drop, take_at, drop_at, take-replicate, drop-replicate, length-take-le, length-replicate, replicate-append-replicate}
use Rattle.std.proofs.Math.Seq.{take-append-add, drop-append-add}
use Rattle.zf_spec.{specs.Numbers.{field, word_bits}, specs.Stream.{with_fill}, proofs.Fields.{length-field}}
use Rattle.zf_spec.proofs.WordBits.{length-word_bits}
use Rattle.zf_bits.{specs.Writer.{IsWritten, room}, proofs.Packed.{flat_map-field-replicate}}
use Rattle.zf_bits.proofs.Words.{take-words, drop-words, field_behind}

pub length-written : {words : List ℕ} {len : ℕ} → IsWritten words len → length (take len (word_bits words)) ≡ len
length-written {words} {len} written = length-take-le len (word_bits words) (omega (arith, written.within, length-word_bits words))

-- all the bits
pub bits_written : {words : List ℕ} {len : ℕ} → IsWritten words len → word_bits words ≡ take len (word_bits words) ++ replicate (64 * length words - len) false
bits_written {words} {len} written =
    sym (take-append-drop len (word_bits words)) ∙ ap (λ (bs : List Bool). take len (word_bits words) ++ bs) written.blank

pub IsWritten-from : (words : List ℕ) (len m : ℕ) (bs : List Bool) → word_bits words ≡ bs ++ replicate m false → length bs ≡ len → len ≤ 64 * length words - 64 → 64 * length words < 2 ^ 63 → IsWritten words len
IsWritten-from words len m bs is long within small =
    let all : len + m ≡ 64 * length words = omega (arith, sym (length-word_bits words), ap length is, length-append bs (replicate m false), length-replicate m false) in
    let zeros : m ≡ 64 * length words - len = omega arith in
    record { within = within; small = small; blank = ap (drop len) is ∙ drop_at bs (replicate m false) len long ∙ ap (λ k. replicate k false) zeros }

-- a field more
pub put_written : (words : List ℕ) (len n v : ℕ) → IsWritten words len → get_or words (len / 64) 0 < 2 ^ 64 → 0 < n → n ≤ 64 → v < 2 ^ n → n ≤ room words len
    → word_bits (set (set words (len / 64) (bit_or (get_or words (len / 64) 0) (v * 2 ^ (len % 64) % 2 ^ 64))) (len / 64 + 1) (v / 2 ^ (63 - len % 64) / 2))
    ≡ (take len (word_bits words) ++ field n v) ++ replicate (64 * length words - len - n) false
put_written words len n v written small some width narrow fits =
    let q = len / 64 in
    let s = len % 64 in
    let m = 64 * length words - len in
    let size : 63 - s + 1 ≡ 64 - s = omega arith in
    let long : length (take len (word_bits words)) ≡ 64 * q + s = length-written written ∙ omega arith in
    let one = set words q (bit_or (get_or words q 0) (v * 2 ^ s % 2 ^ 64)) in
    ap (λ i. word_bits (set one i (v / 2 ^ (63 - s) / 2))) (omega arith)
    ∙ ap (λ y. word_bits (set one (suc q) y)) (shr-shr v (63 - s) 1 ∙ ap (λ k. v / 2 ^ k) size)
    ∙ field_behind 64 q s (64 - s) n (128 - s - n) m v words (take len (word_bits words)) (bits_written written) long (omega arith) (omega arith) (omega arith) (omega arith) small narrow

-- the words behind which a field is put: their last word, and the word behind it
abbrev pub put_words : List ℕ → ℕ → ℕ → ℕ → List ℕ
put_words words len v word = set (set words (len / 64) (bit_or word (v * 2 ^ (len % 64) % 2 ^ 64))) (len / 64 + 1) (v / 2 ^ (63 - len % 64) / 2)

put_bits_are : (words : List ℕ) (len n v word : ℕ) → IsWritten words len → word ≡ get_or words (len / 64) 0 → word < 2 ^ 64 → 0 < n → n ≤ 64 → v < 2 ^ n → n ≤ room words len
    → word_bits (put_words words len v word) ≡ (take len (word_bits words) ++ field n v) ++ replicate (64 * length words - len - n) false
put_bits_are words len n v word written here small some width narrow fits =
    ap (λ x. word_bits (put_words words len v x)) here ∙ put_written words len n v written (omega arith) some width narrow fits

long-put : (words : List ℕ) (len n v : ℕ) → IsWritten words len → length (take len (word_bits words) ++ field n v) ≡ len + n
long-put words len n v written = omega (arith, length-append (take len (word_bits words)) (field n v), length-written written, length-field n v)

pub bits-put : (words : List ℕ) (len n v word end : ℕ) → IsWritten words len → word ≡ get_or words (len / 64) 0 → word < 2 ^ 64 → 0 < n → n ≤ 64 → v < 2 ^ n → n ≤ room words len → end ≡ len + n
    → take end (word_bits (put_words words len v word)) ≡ take len (word_bits words) ++ field n v
bits-put words len n v word end written here small some width narrow fits is_end =
    ap (take end) (put_bits_are words len n v word written here small some width narrow fits)
    ∙ take_at (take len (word_bits words) ++ field n v) (replicate (64 * length words - len - n) false) end (long-put words len n v written ∙ sym is_end)

pub IsWritten-put : (words : List ℕ) (len n v word end : ℕ) → IsWritten words len → word ≡ get_or words (len / 64) 0 → word < 2 ^ 64 → 0 < n → n ≤ 64 → v < 2 ^ n → n ≤ room words len → end ≡ len + n
    → IsWritten (put_words words len v word) end
IsWritten-put words len n v word end written here small some width narrow fits is_end =
    let first = bit_or word (v * 2 ^ (len % 64) % 2 ^ 64) in
    let second = v / 2 ^ (63 - len % 64) / 2 in
    let long : length (put_words words len v word) ≡ length words = length-set (set words (len / 64) first) (len / 64 + 1) second ∙ length-set words (len / 64) first in
    IsWritten-from (put_words words len v word) end (64 * length words - len - n) (take len (word_bits words) ++ field n v)
    (put_bits_are words len n v word written here small some width narrow fits)
    (long-put words len n v written ∙ sym is_end) (omega (arith, written.within)) (omega (arith, written.small))

-- ---- zeros

zeros_are : (words : List ℕ) (len n : ℕ) → IsWritten words len → n ≤ room words len
    → word_bits words ≡ (take len (word_bits words) ++ replicate n false) ++ replicate (64 * length words - (len + n)) false
zeros_are words len n written fits =
    let bits = take len (word_bits words) in
    let m = 64 * length words - (len + n) in
    let all : 64 * length words - len ≡ n + m = omega (arith, written.within) in
    bits_written written
    ∙ ap (λ k. bits ++ replicate k false) all
    ∙ ap (λ (bs : List Bool). bits ++ bs) (sym (replicate-append-replicate n m false))
    ∙ sym (append_assoc bits (replicate n false) (replicate m false))

long-zeros : (words : List ℕ) (len n : ℕ) → IsWritten words len → length (take len (word_bits words) ++ replicate n false) ≡ len + n
long-zeros words len n written = omega (arith, length-append (take len (word_bits words)) (replicate n false), length-written written, length-replicate n false)

pub IsWritten-zeros : (words : List ℕ) (len n : ℕ) → IsWritten words len → n ≤ room words len → IsWritten words (len + n)
IsWritten-zeros words len n written fits =
    IsWritten-from words (len + n) (64 * length words - (len + n)) (take len (word_bits words) ++ replicate n false)
    (zeros_are words len n written fits) (long-zeros words len n written) (omega (arith, written.within)) (omega (arith, written.small))

pub bits-zeros : (words : List ℕ) (len n : ℕ) → IsWritten words len → n ≤ room words len → take (len + n) (word_bits words) ≡ take len (word_bits words) ++ replicate n false
bits-zeros words len n written fits =
    ap (take (len + n)) (zeros_are words len n written fits)
    ∙ take_at (take len (word_bits words) ++ replicate n false) (replicate (64 * length words - (len + n)) false) (len + n) (long-zeros words len n written)

-- ---- whole words

-- the words that hold the bits are filled with zeros
pub words_filled : (words : List ℕ) (len : ℕ) → IsWritten words len → word_bits (take (div_ceil len 64) words) ≡ with_fill (take len (word_bits words))
words_filled words len written =
    let bits = take len (word_bits words) in
    let count = div_ceil len 64 in
    let more = 64 * count - len in
    let long = length-written written in
    let whole : 64 * count ≡ length bits + more = omega arith in
    let filled : more ≡ (64 - length bits % 64) % 64 = omega arith in
    sym (take-words 64 count words) ∙ ap (take (64 * count)) (bits_written written)
    ∙ ap (λ k. take k (bits ++ replicate (64 * length words - len) false)) whole
    ∙ take-append-add bits (replicate (64 * length words - len) false) more
    ∙ ap (λ (bs : List Bool). bits ++ bs) (take-replicate more (64 * length words - len) false (omega (arith, written.within)) ∙ ap (λ k. replicate k false) filled)

-- more words of zeros
grown_bits : (words : List ℕ) (len n : ℕ) → IsWritten words len → word_bits (words ++ replicate n 0) ≡ take len (word_bits words) ++ replicate (64 * length words - len + 64 * n) false
grown_bits words len n written =
    search (rules, flat_map-append, flat_map-field-replicate, bits_written, append_assoc, replicate-append-replicate)

resized : (words more : List ℕ) (count held : ℕ) → more ≡ take count words ++ replicate (count - held) 0 → held ≡ length words → length words ≤ count → more ≡ words ++ replicate (count - length words) 0
resized words more count held is long fits =
    is ∙ ap (λ (ws : List ℕ). ws ++ replicate (count - held) 0) (take_all count words fits) ∙ ap (λ k. words ++ replicate (count - k) 0) long

pub IsWritten-resized : (words more : List ℕ) (len count held : ℕ) → IsWritten words len → more ≡ take count words ++ replicate (count - held) 0 → held ≡ length words → length words ≤ count → 64 * count < 2 ^ 63 → IsWritten more len
IsWritten-resized words more len count held written is long fits small =
    let n = count - length words in
    let same = resized words more count held is long fits in
    let size : length more ≡ count = omega (arith, ap length same, length-append words (replicate n 0), length-replicate {A = ℕ} n 0) in
    IsWritten-from more len (64 * length words - len + 64 * n) (take len (word_bits words)) (ap word_bits same ∙ grown_bits words len n written) (length-written written) (omega (arith, written.within)) (omega arith)

pub bits-resized : (words more : List ℕ) (len count held : ℕ) → IsWritten words len → more ≡ take count words ++ replicate (count - held) 0 → held ≡ length words → length words ≤ count → take len (word_bits more) ≡ take len (word_bits words)
bits-resized words more len count held written is long fits =
    grind (arith, common_steps, resized, grown_bits, take_at, length-written)

-- the words used are blank again
pub IsWritten-cleared : (words blank : List ℕ) (len used n : ℕ) → IsWritten words len → blank ≡ replicate used 0 ++ drop used words → used ≡ div_ceil len 64 → n ≡ length words → IsWritten (take n (blank ++ drop (length blank) words)) 0
IsWritten-cleared words blank len used n written is count long =
    let bits = take len (word_bits words) in
    let m = 64 * length words - len in
    let more = 64 * used - len in
    let ends = length-written written in
    let rest = drop used words in
    let size : length (replicate used 0 ++ rest) ≡ length words = omega (arith, length-append (replicate used 0) rest, length-replicate {A = ℕ} used 0, length-drop used words, written.within) in
    let all : take n (blank ++ drop (length blank) words) ≡ replicate used 0 ++ rest =
    take_at blank (drop (length blank) words) n (ap length is ∙ size ∙ sym long) ∙ is in
    let whole : 64 * used ≡ length bits + more = omega arith in
    let zeros : word_bits rest ≡ replicate (m - more) false =
    sym (drop-words 64 used words) ∙ ap (drop (64 * used)) (bits_written written) ∙ ap (λ k. drop k (bits ++ replicate m false)) whole ∙ drop-append-add bits (replicate m false) more ∙ drop-replicate more m false in
    let sum : 64 * used + (m - more) ≡ 64 * length words = omega (arith, written.within) in
    let blank_bits : word_bits (replicate used 0 ++ rest) ≡ replicate (64 * length words) false =
    flat_map-append (field 64) (replicate used 0) rest
    ∙ ap (λ (bs : List Bool). bs ++ word_bits rest) (flat_map-field-replicate 64 used) ∙ ap (λ (bs : List Bool). replicate (64 * used) false ++ bs) zeros
    ∙ replicate-append-replicate (64 * used) (m - more) false ∙ ap (λ k. replicate k false) sum in
    rw all (IsWritten-from (replicate used 0 ++ rest) 0 (64 * length words) [] blank_bits refl (omega arith) (omega (arith, written.small)))
