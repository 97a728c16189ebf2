-- The bits of words at a place: in one word, and over the end of one. w is the width of a word.
use Rattle.std.proofs.Common.{◌≡◌, ℕ, zero, suc, ◌+◌, ◌-◌, ◌*◌, ◌/◌, ◌%◌, ◌^◌, ◌<◌, ◌≤◌, Bool, false, List, [], ◌∷◌, ◌++◌, length, get_or, set, take, drop, replicate, refl, sym, ap, ◌∙◌, arith, append_assoc, length-append, length-drop, take-take, rules}
use Rattle.std.{specs.List.{flat_map}, specs.Int.Bits.{bit_or}, proofs.lemmas.List.Concat.{flat_map-append}}
use Rattle.std.proofs.Math.Nat.{mul-suc, mul_assoc, add-mul, mul-mod_left, div-eq_of_lt, mod-eq_of_lt}
use Rattle.std.proofs.Math.Seq.{take-append-add, drop-append-add, take-nil}
use Rattle.std.proofs.lemmas.Nat.{mod_low, mod_below, shr_high, shl-shr, shr-shr, shr_split, pow_pos, pow-add, mod-pow-add, shr_below, shl_whole, mul-le, mul-add-lt, mul-mod_first, or_shifted, or_comm}
use Rattle.std.proofs.lemmas.List.{append-nil, take_all, drop_all, take_at, take-append-le, drop-append-le, take-append-drop, drop-drop, drop-take, get_or-drop, take-replicate, drop-replicate, length-take-le, length-replicate, replicate-append-replicate}
use Rattle.zf_spec.{specs.Numbers.{field, number}, proofs.WordBits.{length-flat_map-field}}
use Rattle.zf_spec.proofs.Fields.{length-field, number-field, number-append, number-zeros, number-lt, field-number, field-add, field-zero, field-mod}
use Rattle.zf_bits.proofs.Fields.{take-field, drop-field}

-- ---- whole words

pub take-words : (w q : ℕ) (words : List ℕ) → take (w * q) (flat_map (field w) words) ≡ flat_map (field w) (take q words)
take-words w zero words = let none : w * zero ≡ zero = omega arith in rw none refl
take-words w (suc q) [] = take-nil (w * suc q)
take-words w (suc q) (v ∷ words) =
    let more : w * suc q ≡ length (field w v) + w * q = omega (arith, length-field w v, mul-suc w q) in
    cc (take-append-add (field w v) (flat_map (field w) words) (w * q), take-words w q words)

pub drop-words : (w q : ℕ) (words : List ℕ) → drop (w * q) (flat_map (field w) words) ≡ flat_map (field w) (drop q words)
drop-words w zero words = let none : w * zero ≡ zero = omega arith in rw none refl
drop-words w (suc q) [] = drop_all (w * suc q) [] (omega arith)
drop-words w (suc q) (v ∷ words) =
    let more : w * suc q ≡ length (field w v) + w * q = omega (arith, length-field w v, mul-suc w q) in
    cc (drop-append-add (field w v) (flat_map (field w) words) (w * q), drop-words w q words)

-- two words that are set
pub two_set : (q : ℕ) (words : List ℕ) (x y : ℕ) → suc q < length words → set (set words q x) (suc q) y ≡ take q words ++ x ∷ y ∷ drop (suc (suc q)) words
two_set (suc q) (a ∷ words) x y within = ap (λ (vs : List ℕ). a ∷ vs) (two_set q words x y (omega arith))
two_set q _ x y within = search rules

pub words-two_set : (w q : ℕ) (words : List ℕ) (x y : ℕ) → suc q < length words
    → flat_map (field w) (set (set words q x) (suc q) y) ≡ take (w * q) (flat_map (field w) words) ++ (field w x ++ (field w y ++ drop (w * suc (suc q)) (flat_map (field w) words)))
words-two_set w q words x y within =
    let rest = drop (suc (suc q)) words in
    cc (two_set q words x y within, flat_map-append (field w) (take q words) (x ∷ y ∷ rest), take-words w q words, drop-words w (suc (suc q)) words)

one_set : (q : ℕ) (words : List ℕ) (x : ℕ) → q < length words → set words q x ≡ take q words ++ x ∷ drop (suc q) words
one_set (suc q) (a ∷ words) x within = ap (λ (vs : List ℕ). a ∷ vs) (one_set q words x (omega arith))
one_set q _ x within = search rules

pub words-set : (w q : ℕ) (words : List ℕ) (x : ℕ) → q < length words
    → flat_map (field w) (set words q x) ≡ take (w * q) (flat_map (field w) words) ++ (field w x ++ drop (w * suc q) (flat_map (field w) words))
words-set w q words x within =
    let rest = drop (suc q) words in
    ap (flat_map (field w)) (one_set q words x within)
    ∙ flat_map-append (field w) (take q words) (x ∷ rest)
    ∙ ap (λ (bs : List Bool). bs ++ (field w x ++ flat_map (field w) rest)) (sym (take-words w q words))
    ∙ ap (λ (bs : List Bool). take (w * q) (flat_map (field w) words) ++ (field w x ++ bs)) (sym (drop-words w (suc q) words))

-- the word at a place, and the words behind it
pub words_here : (w q : ℕ) (words : List ℕ) → q < length words → drop (w * q) (flat_map (field w) words) ≡ field w (get_or words q 0) ++ drop (w * suc q) (flat_map (field w) words)
words_here w q [] within = absurd (omega arith)
words_here w zero (v ∷ words) within =
    let none : w * zero ≡ zero = omega arith in
    let one : w * suc zero ≡ length (field w v) + 0 = omega (arith, length-field w v) in
    rw (none, one) (ap (λ (bs : List Bool). field w v ++ bs) (sym (drop-append-add (field w v) (flat_map (field w) words) 0)))
words_here w (suc q) (v ∷ words) within =
    let bs = flat_map (field w) words in
    let here : w * suc q ≡ length (field w v) + w * q = omega (arith, length-field w v, mul-suc w q) in
    let next : w * suc (suc q) ≡ length (field w v) + w * suc q = omega (arith, length-field w v, mul-suc w (suc q)) in
    ap (λ n. drop n (field w v ++ bs)) here ∙ drop-append-add (field w v) bs (w * q) ∙ words_here w q words (omega arith)
    ∙ ap (λ (cs : List Bool). field w (get_or words q 0) ++ cs) (sym (ap (λ n. drop n (field w v ++ bs)) next ∙ drop-append-add (field w v) bs (w * suc q)))

-- ---- shifted numbers

-- a number above the s bits of another
pub field_shifted : (s n v a : ℕ) → a < 2 ^ s → field (s + n) (v * 2 ^ s + a) ≡ field s a ++ field n v
field_shifted s n v a small =
    let low : field s (v * 2 ^ s + a) ≡ field s a = sym (field-mod s (v * 2 ^ s + a)) ∙ ap (field s) (mod_low v s a small) in
    field-add s n (v * 2 ^ s + a) ∙ ap (λ (bs : List Bool). bs ++ field n ((v * 2 ^ s + a) / 2 ^ s)) low ∙ ap (λ u. field s a ++ field n u) (shr_high v s a small)

-- what a shift to the left leaves in a word
pub shl_in_word : (j s v : ℕ) → v * 2 ^ s % 2 ^ (j + s) ≡ (v % 2 ^ j) * 2 ^ s
shl_in_word j s v = grind (arith, shl-shr v s, mul-mod_left v (2 ^ s), mod-pow-add (v * 2 ^ s) j s)

-- a word with s bits, and above them the lowest bits of a number
pub field_or : (w s j v a : ℕ) → s + j ≡ w → a < 2 ^ s → field w (bit_or a (v * 2 ^ s % 2 ^ w)) ≡ field s a ++ field j v
field_or w s j v a parts small =
    let turned : w ≡ j + s = omega arith in
    let kept : v * 2 ^ s % 2 ^ w ≡ (v % 2 ^ j) * 2 ^ s = ap (λ k. v * 2 ^ s % 2 ^ k) turned ∙ shl_in_word j s v in
    let sum : bit_or a (v * 2 ^ s % 2 ^ w) ≡ (v % 2 ^ j) * 2 ^ s + a =
    ap (bit_or a) kept ∙ or_comm a ((v % 2 ^ j) * 2 ^ s) ∙ or_shifted (v % 2 ^ j) s a small in
    ap (field w) sum ∙ ap (λ k. field k ((v % 2 ^ j) * 2 ^ s + a)) (sym parts) ∙ field_shifted s j (v % 2 ^ j) a small
    ∙ ap (λ (bs : List Bool). field s a ++ bs) (field-mod j v)

-- a field written behind s bits of a word, and on into the next word
pub field_over_end : (w s j n k v a : ℕ) → s + j ≡ w → j + w ≡ n + k → a < 2 ^ s → v < 2 ^ n
    → field w (bit_or a (v * 2 ^ s % 2 ^ w)) ++ field w (v / 2 ^ j) ≡ field s a ++ (field n v ++ replicate k false)
field_over_end w s j n k v a parts all small narrow =
    let none : v / 2 ^ n ≡ 0 = div-eq_of_lt narrow in
    cc (field_or w s j v a parts small, append_assoc (field s a) (field j v) (field w (v / 2 ^ j)), field-add j w v, field-add n k v, field-zero k)

-- a word from place s on, and above it the lowest bits of the next word
pub field_window : (w s j a b : ℕ) → s + j ≡ w → a < 2 ^ w → field w (bit_or (a / 2 ^ s) (b * 2 ^ j % 2 ^ w)) ≡ take w (drop s (field w a ++ field w b))
field_window w s j a b parts small =
    let order : j + s ≡ w = omega arith in
    let whole : w ≡ length (field j (a / 2 ^ s)) + s = omega (arith, length-field j (a / 2 ^ s)) in
    search (rules, shr_below, drop-field, take-field, length-field, drop-append-le, field_or, take-append-add)

-- ---- zeros behind the words

-- the first two words, with zeros where there are fewer
pub two_words : (w : ℕ) (words : List ℕ) → take (w + w) (flat_map (field w) words ++ replicate (w + w) false) ≡ field w (get_or words 0 0) ++ field w (get_or words 1 0)
two_words w [] = search (rules, take_all, length-replicate, replicate-append-replicate, field-zero)
two_words w (a ∷ []) =
    cc (length-field w a, append-nil (field w a), take-append-add (field w a) (replicate (w + w) false) w, take-replicate w (w + w) false (omega arith), field-zero w)
two_words w (a ∷ b ∷ words) = search (rules, append_assoc, take_at, length-append, length-field)

-- as many bits from a place on as a word has, where zeros follow behind the last word
pub bits_window : (w q s j : ℕ) (words : List ℕ) → s + j ≡ w → w * q + s ≤ w * length words → get_or words q 0 < 2 ^ w
    → field w (bit_or (get_or words q 0 / 2 ^ s) (get_or words (q + 1) 0 * 2 ^ j % 2 ^ w)) ≡ take w (drop (w * q + s) (flat_map (field w) words) ++ replicate w false)
bits_window w q s j words parts within small =
    let bits = flat_map (field w) words in
    let from = drop (w * q) bits in
    let zeros = replicate (w + w) false in
    let left : s ≤ length from = omega (arith, length-drop (w * q) bits, length-flat_map-field w words) in
    let order : q + 0 ≡ q = omega arith in
    let first : get_or (drop q words) 0 0 ≡ get_or words q 0 = get_or-drop q words 0 0 ∙ ap (λ i. get_or words i 0) order in
    let second : get_or (drop q words) 1 0 ≡ get_or words (q + 1) 0 = get_or-drop q words 1 0 in
    let both : take (w + w) (from ++ zeros) ≡ field w (get_or words q 0) ++ field w (get_or words (q + 1) 0) =
    cc (drop-words w q words, two_words w (drop q words)) in
    let here : drop s (take (w + w) (from ++ zeros)) ≡ take (w + j) (drop s (from ++ zeros)) =
    ap (λ k. drop s (take k (from ++ zeros))) (omega arith) ∙ drop-take s (w + j) (from ++ zeros) in
    let place : drop s (from ++ zeros) ≡ drop (w * q + s) bits ++ zeros =
    drop-append-le s from zeros left ∙ ap (λ (bs : List Bool). bs ++ zeros) (drop-drop s (w * q) bits) in
    field_window w s j (get_or words q 0) (get_or words (q + 1) 0) parts small
    ∙ ap (λ (bs : List Bool). take w (drop s bs)) (sym both)
    ∙ ap (take w) here ∙ take-take w (w + j) (drop s (from ++ zeros)) (omega arith) ∙ ap (take w) place
    ∙ fewer_zeros w (drop (w * q + s) bits)
  where
    fewer_zeros : (n : ℕ) (bs : List Bool) → take n (bs ++ replicate (n + n) false) ≡ take n (bs ++ replicate n false)
    fewer_zeros n bs =
        ap (λ (zs : List Bool). take n (bs ++ zs)) (sym (replicate-append-replicate n n false))
        ∙ ap (take n) (sym (append_assoc bs (replicate n false) (replicate n false)))
        ∙ take-append-le n (bs ++ replicate n false) (replicate n false) (omega (arith, length-append bs (replicate n false), length-replicate n false))

-- two shifts to the left are one
pub shl-shl : (b i j w : ℕ) → b * 2 ^ i % 2 ^ w * 2 ^ j % 2 ^ w ≡ b * 2 ^ (i + j) % 2 ^ w
shl-shl b i j w =
    mul-mod_first (b * 2 ^ i) (2 ^ j) (2 ^ w) ∙ ap (λ n. n % 2 ^ w) (mul_assoc b (2 ^ i) (2 ^ j) ∙ ap (λ p. b * p) (sym (pow-add 2 i j)))

-- ---- a field behind bits that zeros follow

regroup : (a f v k r : List Bool) → a ++ ((f ++ (v ++ k)) ++ r) ≡ ((a ++ f) ++ v) ++ (k ++ r)
regroup a f v k r = simp append_assoc

-- the last word has only the bits of the prefix
word_of_prefix : (w j m a : ℕ) (prefix rest : List Bool) → length prefix + j ≡ w → j ≤ m → a < 2 ^ w → field w a ++ rest ≡ prefix ++ replicate m false → a ≡ number prefix
word_of_prefix w j m a prefix rest long room small same =
    let whole : field w a ≡ prefix ++ replicate j false =
    sym (take_at (field w a) rest w (length-field w a)) ∙ ap (take w) same ∙ ap (λ k. take k (prefix ++ replicate m false)) (sym long)
    ∙ take-append-add prefix (replicate m false) j ∙ ap (λ (bs : List Bool). prefix ++ bs) (take-replicate j m false room) in
    let zeros : 2 ^ length prefix * number (replicate j false) ≡ 0 = ap (λ z. 2 ^ length prefix * z) (number-zeros j) ∙ omega arith in
    let value : a % 2 ^ w ≡ number prefix + 2 ^ length prefix * number (replicate j false) =
    sym (number-field w a) ∙ ap number whole ∙ number-append prefix (replicate j false) in
    let own : a % 2 ^ w ≡ a = mod-eq_of_lt small in
    omega arith

pub field_behind : (w q s j n k m v : ℕ) (words : List ℕ) (prefix : List Bool)
    → flat_map (field w) words ≡ prefix ++ replicate m false → length prefix ≡ w * q + s → s + j ≡ w → j + w ≡ n + k → j + w ≤ m
    → suc q < length words → get_or words q 0 < 2 ^ w → v < 2 ^ n
    → flat_map (field w) (set (set words q (bit_or (get_or words q 0) (v * 2 ^ s % 2 ^ w))) (suc q) (v / 2 ^ j)) ≡ (prefix ++ field n v) ++ replicate (m - n) false
field_behind w q s j n k m v words prefix blank long parts all room within small narrow =
    let bits = flat_map (field w) words in
    let zeros = replicate m false in
    let a = get_or words q 0 in
    let last = drop (w * q) prefix in
    let last_long : length last ≡ s = omega (arith, length-drop (w * q) prefix) in
    let here : field w a ++ drop (w * suc q) bits ≡ last ++ zeros =
    sym (words_here w q words (omega arith)) ∙ ap (drop (w * q)) blank ∙ drop-append-le (w * q) prefix zeros (omega arith) in
    let is_last : a ≡ number last = word_of_prefix w j m a last (drop (w * suc q) bits) (omega arith) (omega arith) small here in
    let below : a < 2 ^ s = omega (arith, number-lt last, ap (λ k. 2 ^ k) last_long) in
    let same : field s a ≡ last = ap (field s) is_last ∙ field-number s last last_long in
    let before : take (w * q) bits ≡ take (w * q) prefix = ap (take (w * q)) blank ∙ take-append-le (w * q) prefix zeros (omega arith) in
    let end : w * suc (suc q) ≡ length prefix + (j + w) = omega (arith, mul-suc w q, mul-suc w (suc q)) in
    let behind : drop (w * suc (suc q)) bits ≡ replicate (m - (j + w)) false =
    ap (drop (w * suc (suc q))) blank ∙ ap (λ n. drop n (prefix ++ zeros)) end ∙ drop-append-add prefix zeros (j + w) ∙ drop-replicate (j + w) m false in
    let x = field w (bit_or a (v * 2 ^ s % 2 ^ w)) in
    let y = field w (v / 2 ^ j) in
    let two = field_over_end w s j n k v a parts all below narrow in
    let count : k + (m - (j + w)) ≡ m - n = omega arith in
    cc (
      words-two_set w q words (bit_or a (v * 2 ^ s % 2 ^ w)) (v / 2 ^ j) within,
      append_assoc x y (replicate (m - (j + w)) false),
      regroup (take (w * q) prefix) last (field n v) (replicate k false) (replicate (m - (j + w)) false),
      take-append-drop (w * q) prefix,
      replicate-append-replicate k (m - (j + w)) false,
    )

-- ---- a field among other bits

-- the number of a word in which a field is another
pub word_with : (s n k word v : ℕ) → word < 2 ^ (s + (n + k))
    → (word / 2 ^ s % 2 ^ n * 2 ^ s ≤ word) × (word - word / 2 ^ s % 2 ^ n * 2 ^ s + v % 2 ^ n * 2 ^ s ≡ (word / 2 ^ s / 2 ^ n * 2 ^ n + v % 2 ^ n) * 2 ^ s + word % 2 ^ s)
word_with s n k word v small =
    let lo = word % 2 ^ s in
    let old = word / 2 ^ s % 2 ^ n in
    let high = word / 2 ^ s / 2 ^ n * 2 ^ n in
    let outer = shr_split word s in
    let inner = shr_split (word / 2 ^ s) n in
    let spread : word / 2 ^ s * 2 ^ s ≡ high * 2 ^ s + old * 2 ^ s = ap (λ u. u * 2 ^ s) (sym inner) ∙ add-mul high old (2 ^ s) in
    let again = add-mul high (v % 2 ^ n) (2 ^ s) in
    (omega arith, omega arith)

pub word_with-lt : (s n k word v : ℕ) → word < 2 ^ (s + (n + k)) → (word / 2 ^ s / 2 ^ n * 2 ^ n + v % 2 ^ n) * 2 ^ s + word % 2 ^ s < 2 ^ (s + (n + k))
word_with-lt s n k word v small =
    let order : n + k + s ≡ s + (n + k) = omega arith in
    let turn : k + n ≡ n + k = omega arith in
    let mid : word / 2 ^ s < 2 ^ (n + k) = shr_below word (n + k) s (rw order small) in
    let top : word / 2 ^ s / 2 ^ n < 2 ^ k = shr_below (word / 2 ^ s) k n (rw turn mid) in
    let inner = mul-add-lt (word / 2 ^ s / 2 ^ n) (2 ^ n) (v % 2 ^ n) (2 ^ k) top (mod_below v (2 ^ n) (pow_pos n)) in
    let outer = mul-add-lt (word / 2 ^ s / 2 ^ n * 2 ^ n + v % 2 ^ n) (2 ^ s) (word % 2 ^ s) (2 ^ n * 2 ^ k) inner (mod_below word (2 ^ s) (pow_pos s)) in
    omega (arith, pow-add 2 s (n + k), ap (λ p. 2 ^ s * p) (pow-add 2 n k))

pub field-word_with : (s n k word v : ℕ) → field (s + (n + k)) ((word / 2 ^ s / 2 ^ n * 2 ^ n + v % 2 ^ n) * 2 ^ s + word % 2 ^ s) ≡ field s word ++ field n v ++ drop (s + n) (field (s + (n + k)) word)
field-word_with s n k word v =
    let parts : s + (n + k) ≡ s + n + k = omega arith in
    search (rules, drop-field, shr-shr, field_shifted, mod_below, pow_pos, field-mod, append_assoc)

take-add : (m n : ℕ) (bs : List Bool) → m ≤ length bs → take (m + n) bs ≡ take m bs ++ take n (drop m bs)
take-add m n bs fits =
    let long : m + n ≡ length (take m bs) + n = omega (arith, length-take-le m bs fits) in
    ap (take (m + n)) (sym (take-append-drop m bs)) ∙ ap (λ k. take k (take m bs ++ drop m bs)) long ∙ take-append-add (take m bs) (drop m bs) n

regroup_word : (a s v r t : List Bool) → a ++ ((s ++ v ++ r) ++ t) ≡ (a ++ s) ++ v ++ (r ++ t)
regroup_word a s v r t = simp append_assoc

-- the bits of words in which one word has another field
pub words_with : (w q s n v x : ℕ) (words : List ℕ) → q < length words → s + n ≤ w → field w x ≡ field s (get_or words q 0) ++ field n v ++ drop (s + n) (field w (get_or words q 0))
    → flat_map (field w) (set words q x) ≡ take (w * q + s) (flat_map (field w) words) ++ field n v ++ drop (w * q + s + n) (flat_map (field w) words)
words_with w q s n v x words within fits is =
    let bits = flat_map (field w) words in
    let a = get_or words q 0 in
    let rest = drop (w * suc q) bits in
    let here = words_here w q words within in
    let parts : w ≡ s + (w - s) = omega arith in
    let inside : w * q ≤ length bits = omega (arith, length-flat_map-field w words, mul-le-mul w q (length words) (omega arith)) in
    let prefix : take (w * q + s) bits ≡ take (w * q) bits ++ field s a =
    search (rules, take-add, take-append-le, length-field, take-field) in
    let sum : w * q + s + n ≡ w * q + (s + n) = omega arith in
    let behind : drop (w * q + s + n) bits ≡ drop (s + n) (field w a) ++ rest =
    ap (λ k. drop k bits) sum ∙ sym (drop-drop (s + n) (w * q) bits) ∙ ap (drop (s + n)) here ∙ drop-append-le (s + n) (field w a) rest (omega (arith, length-field w a)) in
    cc (words-set w q words x within, regroup_word (take (w * q) bits) (field s a) (field n v) (drop (s + n) (field w a)) rest)
  where
    mul-le-mul : (w q l : ℕ) → q ≤ l → w * q ≤ w * l
    mul-le-mul w q l h = mul-le w q w l (omega arith) h

-- a field in two parts, one put behind the other
pub put_twice : (at m n v : ℕ) (old : List Bool) → at + m + n ≤ length old
    → take (at + m) (take at old ++ field m v ++ drop (at + m) old) ++ field n (v / 2 ^ m) ++ drop (at + m + n) (take at old ++ field m v ++ drop (at + m) old)
    ≡ take at old ++ field (m + n) v ++ drop (at + (m + n)) old
put_twice at m n v old fits =
    search (rules, length-append, length-take-le, length-field, take_at, drop-append-add, drop-drop, append_assoc, field-add)

-- the lowest bits of a window
pub low_of_window : (w n v : ℕ) (bits zeros : List Bool) → field w v ≡ take w (bits ++ zeros) → n ≤ w → n ≤ length bits → v % 2 ^ n ≡ number (take n bits)
low_of_window w n v bits zeros is narrow within =
    grind (arith, take-field n (w - n) v, take-take n w (bits ++ zeros) narrow, take-append-le n bits zeros within, number-field n v)

-- a word from which a field is taken and to which another is added, as shifts and sums make it
pub word_put : (w s n k word v old new : ℕ) → s + (n + k) ≡ w → word < 2 ^ w → old ≡ word / 2 ^ s % 2 ^ n → new ≡ v % 2 ^ n
    → (old * 2 ^ s % 2 ^ w ≤ word) × (word - old * 2 ^ s % 2 ^ w + new * 2 ^ s % 2 ^ w < 2 ^ w) × (field w (word - old * 2 ^ s % 2 ^ w + new * 2 ^ s % 2 ^ w) ≡ field s word ++ field n v ++ drop (s + n) (field w word))
word_put w s n k word v old new parts small is_old is_new =
    let whole_old : old * 2 ^ s % 2 ^ w ≡ word / 2 ^ s % 2 ^ n * 2 ^ s =
    shl_whole old n s w (rw is_old (mod_below (word / 2 ^ s) (2 ^ n) (pow_pos n))) (omega arith) ∙ ap (λ u. u * 2 ^ s) is_old in
    let whole_new : new * 2 ^ s % 2 ^ w ≡ v % 2 ^ n * 2 ^ s =
    shl_whole new n s w (rw is_new (mod_below v (2 ^ n) (pow_pos n))) (omega arith) ∙ ap (λ u. u * 2 ^ s) is_new in
    let wide : word < 2 ^ (s + (n + k)) = rw parts small in
    let sums = word_with s n k word v wide in
    let below = word_with-lt s n k word v wide in
    let power : 2 ^ (s + (n + k)) ≡ 2 ^ w = ap (λ j. 2 ^ j) parts in
    let total : word - old * 2 ^ s % 2 ^ w + new * 2 ^ s % 2 ^ w ≡ (word / 2 ^ s / 2 ^ n * 2 ^ n + v % 2 ^ n) * 2 ^ s + word % 2 ^ s =
    ap (λ x. word - x + new * 2 ^ s % 2 ^ w) whole_old ∙ ap (λ x. word - word / 2 ^ s % 2 ^ n * 2 ^ s + x) whole_new ∙ sums.1 in
    (omega (arith, sums.0), omega arith, ap (field w) total ∙ rw (← parts) (field-word_with s n k word v))

-- the same, where the places and the width of both parts are sums
pub put_parts : (at m n whole v p q : ℕ) (old one two : List Bool) → p ≡ at → q ≡ at + m → whole ≡ m + n → at + whole ≤ length old
    → one ≡ take p old ++ field m v ++ drop (p + m) old → two ≡ take q one ++ field n (v / 2 ^ m) ++ drop (q + n) one
    → two ≡ take at old ++ field whole v ++ drop (at + whole) old
put_parts at m n whole v p q old one two first second sum fits is_one is_two =
    cc (put_twice at m n v old (omega arith))
