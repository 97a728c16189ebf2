-- Values and their raw bytes, one part after another.
use Rattle.std.proofs.Common.{rules, ◌≡◌, sym, ap, ◌∙◌, ℕ, zero, suc, ◌+◌, ◌-◌, ◌*◌, ◌/◌, ◌<◌, ◌≤◌, ◌⊎◌, ℤ, FitsSigned, List, ◌∷◌, ◌++◌, All, length, take, drop, take-append-drop, length-append, take_at, drop_at, get_or, arith, []}
use Rattle.std.proofs.lemmas.List.{nil_from_length, append_assoc, take_more, take-append-le, drop-append-le, drop-drop, length-drop, length-take-le}
use Rattle.std.proofs.lemmas.List.Elements.{All-take}
use Rattle.std.proofs.Math.Nat.{add-mul, div-mul-le_self, mul-le-mul_right}
use Rattle.std.{proofs.lemmas.Grind.{flat_map-append}, specs.Int.{Width, w32, w64, byte_len, to_le_bytes, cast_unsigned}}
use borrow.Rule.Slice.PartMut.{put_mid}
use Rattle.zf_spec.specs.Stream.{raw, first_bytes, values_from}
use Rattle.zf_spec.{proofs.Bytes.{first_bytes-all}, proofs.RawValues.{length-raw, length-values_from, values_from-raw, raw-values_from}}
use Rattle.zf_pad.specs.Stored.{values_in}

pub raw-append : (w : Width) (xs ys : List ℤ) → raw w (xs ++ ys) ≡ raw w xs ++ raw w ys
raw-append w xs ys = flat_map-append (λ v. to_le_bytes w (cast_unsigned w v)) xs ys

-- bytes that are there
pub first_bytes-take : (n : ℕ) (s : List ℕ) → n ≤ length s → first_bytes n s ≡ take n s
first_bytes-take (suc n) (b ∷ s) within = ap (λ (bs : List ℕ). b ∷ bs) (first_bytes-take n s (omega arith))
first_bytes-take _ s within = search rules

pub values_from-append : (w : Width) (a b : ℕ) (xs ys : List ℕ) → length xs ≡ a * byte_len w → values_from w (a + b) (xs ++ ys) ≡ values_from w a xs ++ values_from w b ys
values_from-append w zero b xs ys long =
    let count : 0 + b ≡ b = omega arith in
    rw (nil_from_length xs (omega arith)) (ap (λ n. values_from w n ys) count)
values_from-append w (suc a) b xs ys long =
    let n = byte_len w in
    let within : n ≤ length xs = omega arith in
    let count : suc a + b ≡ suc (a + b) = omega arith in
    let here = first_bytes-take n xs within in
    let first = first_bytes-take n (xs ++ ys) (omega (arith, length-append xs ys)) in
    let same = take-append-le n xs ys within in
    let behind = drop-append-le n xs ys within in
    let rest = values_from-append w a b (drop n xs) ys (omega (arith, length-drop n xs)) in
    rw count (cc)

-- the low bytes of a word of eight
pub low_bytes : (w : Width) (n : ℕ) → (w ≡ w32) ⊎ (w ≡ w64) → take (byte_len w) (to_le_bytes w64 n) ≡ to_le_bytes w n
low_bytes w n two = search rules

-- ---- the values that raw bytes are

pub length-values_in : (w : Width) (bytes : List ℕ) → length (values_in w bytes) ≡ length bytes / byte_len w
unfolding values_in
length-values_in w bytes = length-values_from w (length bytes / byte_len w) bytes

-- so many of them end within the bytes
pub raw_within : (w : Width) (n : ℕ) (bytes : List ℕ) → n ≤ length bytes / byte_len w → n * byte_len w ≤ length bytes
raw_within w n bytes few = search (rules, mul-le-mul_right, div-mul-le_self)

-- the first of them
pub values_in-first : (w : Width) (n : ℕ) (bytes : List ℕ) → n ≤ length bytes / byte_len w → take n (values_in w bytes) ≡ values_from w n (take (n * byte_len w) bytes)
unfolding values_in
values_in-first w n bytes few =
    let len = byte_len w in
    let all = length bytes / len in
    let front = take (n * len) bytes in
    let long : length front ≡ n * len = length-take-le (n * len) bytes (raw_within w n bytes few) in
    let count : n + (all - n) ≡ all = omega (arith, few) in
    let parts : values_from w all bytes ≡ values_from w n front ++ values_from w (all - n) (drop (n * len) bytes) =
    ap (values_from w all) (sym (take-append-drop (n * len) bytes))
    ∙ ap (λ k. values_from w k (front ++ drop (n * len) bytes)) (sym count)
    ∙ values_from-append w n (all - n) front (drop (n * len) bytes) long in
    ap (take n) parts ∙ take_at (values_from w n front) (values_from w (all - n) (drop (n * len) bytes)) n (length-values_from w n front)

-- and their bytes
pub raw_of_first : (w : Width) (n : ℕ) (bytes : List ℕ) → All (λ b. b < 256) bytes → n ≤ length bytes / byte_len w → raw w (take n (values_in w bytes)) ≡ take (n * byte_len w) bytes
raw_of_first w n bytes small few =
    let front = take (n * byte_len w) bytes in
    let long : length front ≡ n * byte_len w = length-take-le (n * byte_len w) bytes (raw_within w n bytes few) in
    ap (raw w) (values_in-first w n bytes few)
    ∙ raw-values_from w n front (All-take (λ b. b < 256) (n * byte_len w) bytes small)
    ∙ ap (λ k. first_bytes k front) (sym long)
    ∙ first_bytes-all front

-- the raw bytes of values in the place of those of as many
module _ (w : Width) (to count : ℕ) (old : List ℕ) (values : List ℤ) (fit : All (λ v. FitsSigned w v) values) (size : length values ≡ count) (room : to + count ≤ length old / byte_len w) where
  abbrev len : ℕ
  len = byte_len w

  abbrev left : ℕ
  left = length old / byte_len w - (to + count)

  abbrev front : List ℕ
  front = take (to * len) old

  abbrev behind : List ℕ
  behind = drop (count * len) (drop (to * len) old)

  there : to * len + count * len ≤ length old
  there = omega (arith, add-mul to count (byte_len w), raw_within w (to + count) old room)

  parts : (x : List ℕ) → length x ≡ count * len → values_from w (length old / len) (front ++ (x ++ behind)) ≡ values_from w to front ++ (values_from w count x ++ values_from w left behind)
  parts x long =
      let sum : to + (count + left) ≡ length old / len = omega (arith, room) in
      let begins : length front ≡ to * len = length-take-le (to * len) old (omega (arith, there)) in
      ap (λ k. values_from w k (front ++ (x ++ behind))) (sym sum)
      ∙ values_from-append w to (count + left) front (x ++ behind) begins
      ∙ ap (λ (vs : List ℤ). values_from w to front ++ vs) (values_from-append w count left x behind long)

  abbrev middle : List ℕ
  middle = take (count * len) (drop (to * len) old)

  old_is : front ++ (middle ++ behind) ≡ old
  old_is = ap (λ (bs : List ℕ). front ++ bs) (take-append-drop (count * len) (drop (to * len) old)) ∙ take-append-drop (to * len) old

  middle_long : length middle ≡ count * len
  middle_long = length-take-le (count * len) (drop (to * len) old) (omega (arith, length-drop (to * len) old, there))

  before : values_in w old ≡ values_from w to front ++ (values_from w count middle ++ values_from w left behind)
  unfolding values_in
  before = ap (values_from w (length old / len)) (sym old_is) ∙ parts middle middle_long

  bytes_long : length (raw w values) ≡ count * len
  bytes_long = length-raw w values ∙ ap (λ k. k * len) size

  same_long : length (front ++ (raw w values ++ behind)) ≡ length old
  same_long =
      length-append front (raw w values ++ behind) ∙ ap (λ k. length front + k) (length-append (raw w values) behind ∙ ap (λ k. k + length behind) (bytes_long ∙ sym middle_long) ∙ sym (length-append middle behind))
      ∙ sym (length-append front (middle ++ behind)) ∙ ap length old_is

  after : values_in w (front ++ (raw w values ++ behind)) ≡ values_from w to front ++ (values ++ values_from w left behind)
  unfolding values_in
  after =
      let back : values_from w count (raw w values) ≡ values = ap (λ k. values_from w k (raw w values)) (sym size) ∙ values_from-raw w values fit in
      ap (λ k. values_from w (k / len) (front ++ (raw w values ++ behind))) same_long
      ∙ parts (raw w values) bytes_long
      ∙ ap (λ (vs : List ℤ). values_from w to front ++ (vs ++ values_from w left behind)) back

  first_is : take to (values_in w old) ≡ values_from w to front
  first_is = ap (take to) before ∙ take_at (values_from w to front) _ to (length-values_from w to front)

  last_is : drop (to + count) (values_in w old) ≡ values_from w left behind
  last_is =
      let tail = values_from w count middle ++ values_from w left behind in
      ap (drop (to + count)) before
      ∙ sym (drop-drop count to (values_from w to front ++ tail))
      ∙ ap (drop count) (drop_at (values_from w to front) tail to (length-values_from w to front))
      ∙ drop_at (values_from w count middle) (values_from w left behind) count (length-values_from w count middle)

  pub values_put : (k : ℕ) → k ≡ count * len → values_in w (put_mid (to * len) k old (raw w values)) ≡ take to (values_in w old) ++ (values ++ drop (to + count) (values_in w old))
  values_put k is =
      ap (λ j. values_in w (put_mid (to * len) j old (raw w values))) is ∙ after
      ∙ (λ i. sym first_is i ++ (values ++ sym last_is i))

-- ---- one after another

-- one more
pub one_put : {X : Type 0} (at k : ℕ) (old some : List X) (x d : X) → k < length some → at + k < length old → x ≡ get_or some k d
    → (now : List X) → now ≡ take at old ++ (take k some ++ drop (at + k) old)
    → take (at + k) now ++ x ∷ drop (at + k + 1) now ≡ take at old ++ (take (k + 1) some ++ drop (at + (k + 1)) old)
one_put {X} at k old some x d more room is now are =
    let front = take at old ++ take k some in
    let long : length front ≡ at + k = length-append (take at old) (take k some) ∙ omega (arith, length-take-le at old (omega (arith, room)), length-take-le k some (omega (arith, more))) in
    let parts : now ≡ front ++ drop (at + k) old = are ∙ sym (append_assoc (take at old) (take k some) (drop (at + k) old)) in
    let first : take (at + k) now ≡ front = ap (take (at + k)) parts ∙ take_at front (drop (at + k) old) (at + k) long in
    let behind : drop (at + k) now ≡ drop (at + k) old = ap (drop (at + k)) parts ∙ drop_at front (drop (at + k) old) (at + k) long in
    let last : drop (at + k + 1) now ≡ drop (at + (k + 1)) old =
    sym (drop-drop 1 (at + k) now) ∙ ap (drop 1) behind ∙ drop-drop 1 (at + k) old ∙ ap (λ n. drop n old) (omega arith) in
    let next : take (k + 1) some ≡ take k some ++ x ∷ [] = take_more some k d more ∙ ap (λ v. take k some ++ v ∷ []) (sym is) in
    (λ i. first i ++ x ∷ last i)
    ∙ append_assoc (take at old) (take k some) (x ∷ drop (at + (k + 1)) old)
    ∙ ap (λ (vs : List X). take at old ++ vs) (sym (append_assoc (take k some) (x ∷ []) (drop (at + (k + 1)) old)) ∙ ap (λ (vs : List X). vs ++ drop (at + (k + 1)) old) (sym next))
