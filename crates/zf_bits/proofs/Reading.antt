-- One read after another.
use Rattle.std.proofs.Common.{◌≡◌, ℕ, ◌+◌, ◌-◌, ◌*◌, ◌/◌, ◌%◌, ◌^◌, ◌<◌, ◌≤◌, Bool, false, List, [], ◌∷◌, ◌++◌, length, get_or, take, drop, min, sym, ap, ◌∙◌, subst, arith, append_assoc, length-append, length-drop, length-take, take-take, refl}
use Rattle.std.proofs.lemmas.List.{length-take-le, get_or-take, drop_more, drop-drop, drop-take, take-append-drop, take-append-le, take_min}
use Rattle.zf_spec.specs.Numbers.{is_odd, field, word_bits}
use Rattle.zf_spec.proofs.WordBits.{length-word_bits, get_or-flat_map-field}
use Rattle.zf_bits.specs.Reader.{Reader, rest, Reads}

pub Reads-append : {a b c : Reader} {xs ys : List Bool} → Reads a b xs → Reads b c ys → Reads a c (xs ++ ys)
Reads-append {a} {b} {c} {xs} {ys} first second =
    grind (arith, append_assoc xs ys (rest c), length-append xs ys)

pub Reads-same : {a b : Reader} {xs ys : List Bool} → Reads a b xs → xs ≡ ys → Reads a b ys
Reads-same {a} {b} reads e = let P : List Bool → Type 0 = λ bs. Reads a b bs in subst P e reads

-- the next n bits
pub Reads-take : (r : Reader) (n : ℕ) → n ≤ length (rest r) → Reads r (record r { at = r.at + n }) (take n (rest r))
Reads-take r n fits =
    grind (arith, take-append-drop n (rest r), drop-drop n r.at r.all, length-take-le n (rest r) fits)

-- ---- over words

-- a reader of the first bits of words
abbrev pub reader_of : List ℕ → ℕ → ℕ → Reader
reader_of words bits at = record { all = take bits (word_bits words); at = at }

pub length-reader_of : (words : List ℕ) (bits at : ℕ) → bits ≤ 64 * length words → length (reader_of words bits at).all ≡ bits
length-reader_of words bits at within = length-take-le bits (word_bits words) (omega (arith, length-word_bits words))

pub length-rest : (words : List ℕ) (bits at : ℕ) → bits ≤ 64 * length words → length (rest (reader_of words bits at)) ≡ bits - at
length-rest words bits at within =
    omega (arith, length-drop at (reader_of words bits at).all, length-reader_of words bits at within)

pub Reads-one : (words : List ℕ) (bits at : ℕ) → bits ≤ 64 * length words → at < bits → Reads (reader_of words bits at) (reader_of words bits (at + 1)) (is_odd (get_or words (at / 64) 0 / 2 ^ (at % 64)) ∷ [])
Reads-one words bits at within left =
    let all = (reader_of words bits at).all in
    let here = drop_more all at false (omega (arith, length-reader_of words bits at within)) in
    let bit =
    get_or-take bits (word_bits words) at false left ∙ get_or-flat_map-field 64 words at false (omega arith) (omega arith) in
    record { next = here ∙ ap (λ b. b ∷ drop (at + 1) all) bit; place = refl; all = refl }

-- what is left, from the bits of all the words
pub take-rest : (words : List ℕ) (bits at n : ℕ) → at + n ≤ bits → take n (rest (reader_of words bits at)) ≡ take n (drop at (word_bits words))
take-rest words bits at n within =
    let cut : bits ≡ at + (bits - at) = omega arith in
    ap (λ k. take n (drop at (take k (word_bits words)))) cut ∙ ap (take n) (drop-take at (bits - at) (word_bits words))
    ∙ take-take n (bits - at) (drop at (word_bits words)) (omega arith)

-- a number with these lowest bits has the next bits, as far as there are some
pub take-peeked : (words : List ℕ) (bits at v : ℕ) (zeros : List Bool) → bits ≤ 64 * length words → at ≤ bits → field 64 v ≡ take 64 (drop at (word_bits words) ++ zeros)
    → take (length (take 64 (rest (reader_of words bits at)))) (field 64 v) ≡ take 64 (rest (reader_of words bits at))
take-peeked words bits at v zeros fits within is =
    let left = rest (reader_of words bits at) in
    let all = drop at (word_bits words) in
    let n = min 64 (length left) in
    let size = length-rest words bits at fits in
    ap (λ k. take k (field 64 v)) (length-take 64 left) ∙ ap (take n) is
    ∙ take-take n 64 (all ++ zeros) (omega arith)
    ∙ take-append-le n all zeros (omega (arith, length-drop at (word_bits words), length-word_bits words))
    ∙ sym (take-rest words bits at n (omega arith)) ∙ take_min 64 left
