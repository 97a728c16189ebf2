-- The bits of bytes are the bits of their words, and then zeros.
use Rattle.std.proofs.Common.{◌≡◌, ℕ, zero, suc, ◌+◌, ◌-◌, ◌*◌, ◌%◌, ◌^◌, ◌<◌, ◌≤◌, false, List, [], ◌∷◌, ◌++◌, length, get_or, take, drop, replicate, All, min, refl, sym, ap, ◌∙◌, arith, append_assoc, length-append, length-drop, lit<, rules}
use Rattle.std.{specs.List.{flat_map}, proofs.Math.Nat.{pow-suc, mul-suc, mod-eq_of_lt}}
use Rattle.std.specs.Int.{w64, byte_worth, sum_through, div_ceil, from_le_bytes, to_le_bytes}
use Rattle.std.proofs.lemmas.List.{append-nil, take_at, take-append-drop, drop_all, drop_at, drop-drop, get_or-drop, length-take-le, replicate-append-replicate}
use Rattle.std.proofs.lemmas.List.Elements.{All-head, All-tail, All-nil, All-append}
use Rattle.std.proofs.lemmas.List.Concat.{flat_map-append}
use Rattle.zf_spec.{specs.Numbers.{field, number, word_bits}, proofs.WordBits.{length-word_bits}}
use Rattle.zf_spec.specs.Stream.{first_bytes, with_fill, to_bits, to_bytes}
use Rattle.zf_spec.proofs.Fields.{length-field, number-field, number-append, field-number, field-zero}
use Rattle.zf_spec.proofs.Bytes.{length-first_bytes, length-to_bits, first_bytes-all, length-to_le_bytes, to_le_bytes_small, from_le_bytes-to_le_bytes, to_bytes-to_bits}
use Rattle.zf_bits.{specs.Packing.{word_of, words_from, words_of}, proofs.Words.{take-words}}

-- ---- bytes, continued with zero bytes

pub first_bytes-append-drop : (n : ℕ) (s : List ℕ) → first_bytes n s ++ drop n s ≡ s ++ replicate (n - length s) 0
first_bytes-append-drop zero s = let none : zero - length s ≡ zero = omega arith in rw none (sym (append-nil s))
first_bytes-append-drop (suc n) [] =
    let more : suc n - 0 ≡ suc (n - 0) = omega arith in
    let none : drop n [] ≡ [] = drop_all n [] (omega arith) in
    rw more (ap (λ bs. 0 ∷ bs) (ap (λ bs. first_bytes n [] ++ bs) (sym none) ∙ first_bytes-append-drop n []))
first_bytes-append-drop (suc n) (b ∷ s) = grind (arith, first_bytes-append-drop n s)

pub first_bytes-short : (n : ℕ) (s : List ℕ) → length s ≤ n → first_bytes n s ≡ s ++ replicate (n - length s) 0
first_bytes-short n s short =
    sym (append-nil (first_bytes n s)) ∙ ap (λ bs. first_bytes n s ++ bs) (sym (drop_all n s short)) ∙ first_bytes-append-drop n s

-- ---- the number of bytes

pub number-flat_map-field : (w b : ℕ) (bs : List ℕ) → number (flat_map (field w) (b ∷ bs)) ≡ b % 2 ^ w + 2 ^ w * number (flat_map (field w) bs)
number-flat_map-field w b bs =
    number-append (field w b) (flat_map (field w) bs) ∙ rw (length-field w b, number-field w b) refl

byte_worth-suc : (i b : ℕ) → byte_worth (suc i) b ≡ 256 * byte_worth i b
byte_worth-suc zero b = omega arith
byte_worth-suc (suc i) b =
    ap (λ p. b * p) (pow-suc 256 (suc i)) ∙ grind arith

-- the first byte, and the number of the others
sum_through-cons : (k b : ℕ) (bs : List ℕ) → sum_through (λ i. byte_worth i (get_or (b ∷ bs) i 0)) (suc k) ≡ b + 256 * sum_through (λ i. byte_worth i (get_or bs i 0)) k
sum_through-cons zero b bs = omega (arith, byte_worth-suc 0 (get_or bs 0 0))
sum_through-cons (suc k) b bs =
    omega (arith, sum_through-cons k b bs, byte_worth-suc (suc k) (get_or bs (suc k) 0))

-- the bits of bytes are those of the number that they are, least significant byte first
pub number-to_bits : (k : ℕ) (bs : List ℕ) → length bs ≡ suc k → ((i : ℕ) → get_or bs i 0 < 256) → number (to_bits bs) ≡ sum_through (λ i. byte_worth i (get_or bs i 0)) k
number-to_bits zero (b ∷ []) count bytes = grind (arith, mod-eq_of_lt (bytes 0), number-flat_map-field 8 b [])
number-to_bits (suc k) (b ∷ bs) count bytes =
    let others = number-to_bits k bs (omega arith) (λ i. bytes (suc i)) in
    cc (mod-eq_of_lt (bytes 0), number-flat_map-field 8 b bs, sum_through-cons k b bs)
number-to_bits k _ count bytes = absurd (omega arith)

-- ---- words

get_or-first_bytes : (n : ℕ) (s : List ℕ) → ((i : ℕ) → get_or s i 0 < 256) → (i : ℕ) → get_or (first_bytes n s) i 0 < 256
get_or-first_bytes (suc n) [] bytes (suc i) = get_or-first_bytes n [] bytes i
get_or-first_bytes (suc n) (b ∷ s) bytes zero = bytes 0
get_or-first_bytes (suc n) (b ∷ s) bytes (suc i) = get_or-first_bytes n s (λ k. bytes (suc k)) i
get_or-first_bytes _ s bytes i = lit< tt

-- the bits of a word are those of its bytes
pub field-word_of : (s : List ℕ) → ((i : ℕ) → get_or s i 0 < 256) → field 64 (word_of s) ≡ to_bits (first_bytes 8 s)
unfolding word_of
field-word_of s bytes =
    let whole = first_bytes 8 s in
    let value = number-to_bits 7 whole (length-first_bytes 8 s) (get_or-first_bytes 8 s bytes) in
    let count : length (to_bits whole) ≡ 64 = omega (arith, length-to_bits whole, length-first_bytes 8 s) in
    ap (field 64) (sym value) ∙ field-number 64 (to_bits whole) count

pub flat_map-field-replicate : (w n : ℕ) → flat_map (field w) (replicate n 0) ≡ replicate (w * n) false
flat_map-field-replicate w zero = let none : w * zero ≡ zero = omega arith in rw none refl
flat_map-field-replicate w (suc n) =
    let more : w * suc n ≡ w + w * n = omega (arith, mul-suc w n) in
    rw (more, field-zero w, flat_map-field-replicate w n) (replicate-append-replicate w (w * n) false)

-- zero bytes in front of zero bits
to_bits-append-zeros : (s : List ℕ) (m n : ℕ) → to_bits (s ++ replicate m 0) ++ replicate n false ≡ to_bits s ++ replicate (8 * m + n) false
to_bits-append-zeros s m n =
    let parts = flat_map-append (field 8) s (replicate m 0) ∙ ap (λ bs. to_bits s ++ bs) (flat_map-field-replicate 8 m) in
    ap (λ bs. bs ++ replicate n false) parts ∙ append_assoc (to_bits s) (replicate (8 * m) false) (replicate n false) ∙ ap (λ bs. to_bits s ++ bs) (replicate-append-replicate (8 * m) n false)

pub word_bits-words_from : (n : ℕ) (s : List ℕ) → length s ≤ 8 * n → ((i : ℕ) → get_or s i 0 < 256) → word_bits (words_from n s) ≡ to_bits s ++ replicate (64 * n - 8 * length s) false
word_bits-words_from zero [] fits bytes = refl
word_bits-words_from zero (b ∷ s) fits bytes = absurd (omega arith)
word_bits-words_from (suc n) s fits bytes =
    let rest = drop 8 s in
    let left = length-drop 8 s in
    let zeros = replicate (64 * n - 8 * length rest) false in
    let others = word_bits-words_from n rest (omega arith) (λ i. rw (get_or-drop 8 s i 0) (bytes (8 + i))) in
    let bits = flat_map-append (field 8) (first_bytes 8 s) rest in
    let count : 8 * (8 - length s) + (64 * n - 8 * length rest) ≡ 64 * suc n - 8 * length s = omega arith in
    ap (λ bs. bs ++ word_bits (words_from n rest)) (field-word_of s bytes) ∙ ap (λ bs. to_bits (first_bytes 8 s) ++ bs) others ∙ sym (append_assoc (to_bits (first_bytes 8 s)) (to_bits rest) zeros) ∙ ap (λ bs. bs ++ zeros) (sym bits ∙ ap to_bits (first_bytes-append-drop 8 s)) ∙ to_bits-append-zeros s (8 - length s) (64 * n - 8 * length rest) ∙ ap (λ k. to_bits s ++ replicate k false) count

pub word_bits-words_of : (s : List ℕ) → ((i : ℕ) → get_or s i 0 < 256) → word_bits (words_of s) ≡ with_fill (to_bits s)
word_bits-words_of s bytes =
    grind (arith, length-to_bits s, word_bits-words_from (div_ceil (length s) 8) s (omega arith) bytes)

length-words_from : (n : ℕ) (s : List ℕ) → length (words_from n s) ≡ n
length-words_from zero s = refl
length-words_from (suc n) s = ap suc (length-words_from n (drop 8 s))

pub length-words_of : (s : List ℕ) → length (words_of s) ≡ div_ceil (length s) 8
length-words_of s = length-words_from (div_ceil (length s) 8) s

-- ---- one piece more

-- what follows enough bytes is not looked at
pub first_bytes-more : (n : ℕ) (s more : List ℕ) → n ≤ length s → first_bytes n (s ++ more) ≡ first_bytes n s
first_bytes-more (suc n) (b ∷ s) more fits = ap (λ bs. b ∷ bs) (first_bytes-more n s more (omega arith))
first_bytes-more _ s more fits = search rules

-- a whole word, and the bytes behind it
words_of-whole : (piece rest : List ℕ) → length piece ≡ 8 → words_of (piece ++ rest) ≡ word_of piece ∷ words_of rest
unfolding word_of
words_of-whole piece rest count =
    grind (arith, length-append piece rest, first_bytes-more 8 piece rest (omega arith), drop_at piece rest 8 count)

-- the last word
words_of-last : (piece : List ℕ) → 0 < length piece → length piece ≤ 8 → words_of piece ≡ word_of piece ∷ []
words_of-last piece some fits = let one : div_ceil (length piece) 8 ≡ 1 = omega arith in rw one refl

-- a piece of 8 bytes, or of all that are left, is one word
pub words_of-append : (piece rest : List ℕ) → length piece ≡ min 8 (length (piece ++ rest)) → 0 < length (piece ++ rest) → words_of (piece ++ rest) ≡ word_of piece ∷ words_of rest
words_of-append piece [] count some =
    rw (append-nil piece) (words_of-last piece (omega (arith, length-append piece [])) (omega arith))
words_of-append piece (b ∷ rest) count some =
    words_of-whole piece (b ∷ rest) (omega (arith, length-append piece (b ∷ rest)))

-- one word more
pub words_from-more : (n : ℕ) (s : List ℕ) → words_from (n + 1) s ≡ words_from n s ++ word_of (drop (8 * n) s) ∷ []
words_from-more zero s = refl
words_from-more (suc n) s = grind (arith, drop-drop (8 * n) 8 s, words_from-more n (drop 8 s))

-- the word of the first 8 bytes
pub word_of-eight : (s : List ℕ) → 8 ≤ length s → word_of (take 8 s) ≡ word_of s
unfolding word_of
word_of-eight s within = search (rules, length-take-le, first_bytes-more, take-append-drop)

-- ---- the bytes of words

pub flat_map-push : (f : ℕ → List ℕ) (xs : List ℕ) (x : ℕ) → flat_map f (xs ++ x ∷ []) ≡ flat_map f xs ++ f x
flat_map-push f xs x = flat_map-append f xs (x ∷ []) ∙ ap (λ bs. flat_map f xs ++ bs) (append-nil (f x))

-- the bits of a word's bytes are the word's
to_bits-to_le_bytes : (v : ℕ) → v < 2 ^ 64 → to_bits (to_le_bytes w64 v) ≡ field 64 v
unfolding word_of
to_bits-to_le_bytes v small =
    let bytes = to_le_bytes w64 v in
    let long : 8 ≡ length bytes = sym (length-to_le_bytes w64 v) in
    let whole : first_bytes 8 bytes ≡ bytes = ap (λ n. first_bytes n bytes) long ∙ first_bytes-all bytes in
    let value : word_of bytes ≡ v = ap (from_le_bytes w64) whole ∙ from_le_bytes-to_le_bytes w64 v small in
    sym (ap (field 64) (sym value) ∙ field-word_of bytes (λ i. below_all i bytes (to_le_bytes_small w64 v)) ∙ ap to_bits whole)
  where
    below_all : (i : ℕ) (bs : List ℕ) → All (λ b. b < 256) bs → get_or bs i 0 < 256
    below_all i [] all = lit< tt
    below_all zero (b ∷ bs) all = All-head (λ b. b < 256) b bs all
    below_all (suc i) (b ∷ bs) all = below_all i bs (All-tail (λ b. b < 256) b bs all)

-- the bytes of words, one word after another, are those of all their bits
pub bytes-words : (words : List ℕ) → All (λ v. v < 2 ^ 64) words → flat_map (to_le_bytes w64) words ≡ to_bytes (word_bits words)
bytes-words words small = sym (to_bytes-to_bits (flat_map (to_le_bytes w64) words) (small_bytes words)) ∙ ap to_bytes (same_bits words small)
  where
    small_bytes : (ws : List ℕ) → All (λ b. b < 256) (flat_map (to_le_bytes w64) ws)
    small_bytes [] = All-nil (λ b. b < 256)
    small_bytes (v ∷ ws) = All-append (λ b. b < 256) (to_le_bytes w64 v) (flat_map (to_le_bytes w64) ws) (to_le_bytes_small w64 v) (small_bytes ws)

    same_bits : (ws : List ℕ) → All (λ v. v < 2 ^ 64) ws → to_bits (flat_map (to_le_bytes w64) ws) ≡ word_bits ws
    same_bits [] all = refl
    same_bits (v ∷ ws) all =
        flat_map-append (field 8) (to_le_bytes w64 v) (flat_map (to_le_bytes w64) ws)
        ∙ ap (λ bs. bs ++ to_bits (flat_map (to_le_bytes w64) ws)) (to_bits-to_le_bytes v (All-head (λ v. v < 2 ^ 64) v ws all))
        ∙ ap (λ bs. field 64 v ++ bs) (same_bits ws (All-tail (λ v. v < 2 ^ 64) v ws all))

-- ---- bytes put into words

pub bits_put : (words rest s : List ℕ) (bits held k : ℕ) → bits ≡ 64 * held → held ≤ length words → length s ≤ 8 * k → ((i : ℕ) → get_or s i 0 < 256)
    → take (bits + 8 * length s) (word_bits (take held words ++ (words_from k s ++ rest))) ≡ take bits (word_bits words) ++ to_bits s
bits_put words rest s bits held k bits_are within fits bytes =
    search (rules, take-words, length-take-le, length-word_bits, length-to_bits, flat_map-append, word_bits-words_from, append_assoc, take_at, length-append)
