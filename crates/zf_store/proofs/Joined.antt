-- The words of two runs of bits end to end, and their bytes.
use Rattle.std.proofs.Common.{◌≡◌, refl, sym, ap, ◌∙◌, ℕ, zero, suc, ◌+◌, ◌-◌, ◌*◌, ◌/◌, ◌^◌, ◌<◌, ◌≤◌, min, Bool, false, List, [], ◌∷◌, ◌++◌, length, get_or, take, drop, replicate, append_assoc, append-nil, length-append, length-drop, arith, rules}
use Rattle.std.{specs.Int.{w64, to_le_bytes, div_ceil}, proofs.lemmas.Bool.{cases_lt}}
use Rattle.std.proofs.Math.Seq.{drop-append-add, take-append-add}
use Rattle.std.proofs.lemmas.List.{length-take-le, length-replicate, take-take, take_at, take_all, take-append-le, drop-take, drop-drop, drop_all, drop-append-le, take-replicate}
use Rattle.zf_spec.specs.Numbers.{field, number, word_bits}
use Rattle.zf_spec.specs.Stream.{bytes_from, to_bytes, to_bits, with_fill, fill_len}
use Rattle.zf_spec.proofs.Fields.{length-field}
use Rattle.zf_bits.{proofs.Fields.{take-field}, proofs.Packed.{bytes-words}}
use Rattle.zf_store.proofs.Runs.{field_of_number}

-- ---- bits continued with zeros

-- the first w bits of a list that is continued with k zeros, where there are so many
take_padded : (w k : ℕ) (bs : List Bool) → w ≤ length bs + k → take w (bs ++ replicate k false) ≡ take (min (length bs) w) bs ++ replicate (w - min (length bs) w) false
take_padded w k bs enough =
    let m : length bs < w → min (length bs) w ≡ length bs = λ h. omega arith in
    let n : w ≤ length bs → min (length bs) w ≡ w = λ h. omega arith in
    let sum : length bs < w → w ≡ length bs + (w - length bs) = λ h. omega arith in
    search (rules, cases_lt, take-append-add, take-replicate, take_all, take-append-le, append-nil)

-- any count of zeros that is enough will do
pub padded_same : (w j k : ℕ) (bs : List Bool) → w ≤ length bs + j → w ≤ length bs + k → take w (bs ++ replicate j false) ≡ take w (bs ++ replicate k false)
padded_same w j k bs f g = take_padded w j bs f ∙ sym (take_padded w k bs g)

-- ---- a word of a run

pub word_of_run : (at len n x : ℕ) (bits : List Bool) → at ≤ len → len ≤ length bits → n ≡ min (len - at) 64 → x ≡ number (take n (drop at bits))
    → field 64 x ≡ take 64 (drop at (take len bits) ++ replicate 64 false)
word_of_run at len n x bits before within is_n is_x =
    let sum : len ≡ at + (len - at) = omega arith in
    let run = drop at (take len bits) in
    let same : run ≡ take (len - at) (drop at bits) = ap (λ k. drop at (take k bits)) sum ∙ drop-take at (len - at) bits in
    let long : length run ≡ len - at = omega (arith, length-drop at (take len bits), length-take-le len bits within) in
    let piece : take n run ≡ take n (drop at bits) = ap (take n) same ∙ take-take n (len - at) (drop at bits) (omega arith) in
    let count : n ≡ min (length run) 64 = omega arith in
    cc (field_of_number n (take n run) (length-take-le n run (omega arith)) (omega arith), take_padded 64 64 run (omega arith))

-- ---- a word of two runs

-- one word has its bits
pub one_word : (words : List ℕ) → length words ≡ 1 → field 64 (get_or words 0 0) ≡ word_bits words
one_word (x ∷ []) one = sym (append-nil (field 64 x))
one_word x one = absurd (omega arith)

module _ (prefix back : List Bool) (at : ℕ) where
  pub word_behind : (from : ℕ) → length prefix ≤ at → from ≡ at - length prefix → take 64 (drop from back ++ replicate 64 false) ≡ take 64 (drop at (prefix ++ back) ++ replicate 64 false)
  word_behind from behind is_from = let sum : at ≡ length prefix + from = omega arith in cc (drop-append-add prefix back from)

  pub word_before : at + 64 ≤ length prefix → take 64 (drop at prefix ++ replicate 64 false) ≡ take 64 (drop at (prefix ++ back) ++ replicate 64 false)
  word_before before =
      let long : 64 ≤ length (drop at prefix) = omega (arith, length-drop at prefix) in
      rw (drop-append-le at prefix back (omega arith), append_assoc, take-append-le, take-append-le) refl

  pub word_between : (held n word v x : ℕ) (now : List Bool) → at ≤ length prefix → held ≡ length prefix - at → n ≡ 64 - held → held ≤ 64
      → field 64 word ≡ take 64 (drop at prefix ++ replicate 64 false) → field 64 v ≡ take 64 (back ++ replicate 64 false)
      → now ≡ take held (field 64 word ++ []) ++ field n v ++ drop (held + n) (field 64 word ++ []) → field 64 x ≡ now
      → field 64 x ≡ take 64 (drop at (prefix ++ back) ++ replicate 64 false)
  word_between held n word v x now within is_held is_n narrow is_word is_v is_now is_x =
      let old = field 64 word ++ [] in
      let rest = drop at prefix in
      let zeros = replicate 64 false in
      let long : length rest ≡ held = omega (arith, length-drop at prefix) in
      let parts : n + held ≡ 64 = omega arith in
      let sum : 64 ≡ length rest + n = omega arith in
      let none : drop (held + n) old ≡ [] = drop_all (held + n) old (omega arith) in
      let low : take held old ≡ rest = cc (append-nil (field 64 word), take-take held 64 (rest ++ zeros) narrow, take_at rest zeros held long) in
      let high : field n v ≡ take n (back ++ zeros) = cc (take-field n held v, take-take n 64 (back ++ zeros) (omega arith)) in
      cc (append-nil (take held old ++ field n v), drop-append-le at prefix back within, append_assoc rest back zeros, take-append-add rest (back ++ zeros) n)

-- ---- bytes

pub bytes_from-add : (m n : ℕ) (bs : List Bool) → bytes_from (m + n) bs ≡ bytes_from m bs ++ bytes_from n (drop (8 * m) bs)
bytes_from-add zero n bs = let e : zero + n ≡ n = omega arith in ap (λ k. bytes_from k bs) e
bytes_from-add (suc m) n bs =
    let e : suc m + n ≡ suc (m + n) = omega arith in
    let f : 8 + 8 * m ≡ 8 * suc m = omega arith in cc (bytes_from-add m n (drop 8 bs), drop-drop (8 * m) 8 bs)

pub bytes_from-prefix : (n : ℕ) (bs : List Bool) → bytes_from n (take (8 * n) bs) ≡ bytes_from n bs
bytes_from-prefix zero bs = refl
bytes_from-prefix (suc n) bs =
    let e : 8 * suc n ≡ 8 + 8 * n = omega arith in
    cc (take-take 8 (8 + 8 * n) bs (omega arith), drop-take 8 (8 * n) bs, bytes_from-prefix n (drop 8 bs))

-- the bytes of a word
pub bytes_of_word : (x : ℕ) → x < 2 ^ 64 → to_le_bytes w64 x ≡ bytes_from 8 (field 64 x)
bytes_of_word x small =
    let long : length (field 64 x ++ []) / 8 ≡ 8 = omega (arith, length-append (field 64 x) [], length-field 64 x) in
    let bytes = bytes-words (x ∷ []) (search rules) in cc (append-nil (to_le_bytes w64 x), append-nil (field 64 x))

-- word i of the bytes of filled bits
pub filled_word : (bs : List Bool) (i x : ℕ) → 64 * i < length bs → field 64 x ≡ take 64 (drop (64 * i) bs ++ replicate 64 false) → field 64 x ≡ take 64 (drop (64 * i) (with_fill bs))
filled_word bs i x within is =
    let left : length (drop (64 * i) bs) ≡ length bs - 64 * i = length-drop (64 * i) bs in
    let k = fill_len (length bs) in rw (drop-append-le (64 * i) bs (replicate k false) (omega arith)) (is ∙ padded_same 64 64 k (drop (64 * i) bs) (omega arith) (omega arith))

pub bytes_more : (bs : List Bool) (i j x : ℕ) (now new : List ℕ) → 64 * i < length bs → x < 2 ^ 64 → j ≡ i + 1 → 8 * i ≤ length now
    → field 64 x ≡ take 64 (drop (64 * i) bs ++ replicate 64 false) → take (8 * i) now ≡ bytes_from (8 * i) (with_fill bs)
    → new ≡ take (8 * i) now ++ to_le_bytes w64 x ++ drop (8 * i + 8) now → take (8 * j) new ≡ bytes_from (8 * j) (with_fill bs)
bytes_more bs i j x now new within small is_j held is_x is_now is_new =
    let bytes = bytes_of_word x small in
    let size : length (take (8 * i) now ++ to_le_bytes w64 x) ≡ 8 * j = omega (arith, length-append (take (8 * i) now) (to_le_bytes w64 x), length-take-le (8 * i) now held, ap length bytes) in
    let sum : 8 * j ≡ 8 * i + 8 = omega arith in
    let eight : 8 * (8 * i) ≡ 64 * i = omega arith in
    let word = ap (bytes_from 8) (filled_word bs i x within is_x) ∙ bytes_from-prefix 8 (drop (64 * i) (with_fill bs)) in search (rules, take_at, bytes_from-add)

pub bytes_all : (bs : List Bool) (i : ℕ) (out : List ℕ) → length out ≡ 8 * div_ceil (length bs) 64 → length out ≤ 8 * i → i ≤ length out / 8 → take (8 * i) out ≡ bytes_from (8 * i) (with_fill bs) → out ≡ to_bytes (with_fill bs)
bytes_all bs i out size all last is = search (rules, length-append, length-replicate, take_all)

-- the last bits of a word before the end of whole words are the fill
pub fill_of_word : (bytes : List ℕ) (used whole fill word x : ℕ) → whole ≡ 8 * div_ceil used 64 → 8 ≤ whole → whole ≤ length bytes → fill ≡ 8 * whole - used
    → field 64 word ≡ take 64 (drop (8 * (whole - 8)) (to_bits bytes)) → x ≡ number (take fill (drop (64 - fill) (field 64 word ++ []))) → x ≡ number (take (fill_len used) (drop used (to_bits bytes)))
fill_of_word bytes used whole fill word x is_whole some within is_fill is_word is_x =
    let bits = to_bits bytes in
    let at = 8 * (whole - 8) in
    let parts : 64 ≡ 64 - fill + fill = omega arith in
    let place : at + (64 - fill) ≡ used = omega arith in
    let same : fill ≡ fill_len used = omega arith in
    let none = append-nil (field 64 word) in
    cc (drop-take (64 - fill) fill (drop at bits), drop-drop (64 - fill) at bits, take-take fill fill (drop used bits) (omega arith))
