-- Planes in which the first rank alone has ones: their code, what is read as such, and the digits that they hold.
use Rattle.std.{proofs.lemmas.List.Elements.{All-map}, proofs.Math.Pow.{pow_mono}, specs.Int.{Width}}
use Rattle.std.proofs.Common.{rules, ◌≡◌, refl, sym, ap, subst, ◌∙◌, ℕ, zero, suc, ◌+◌, ◌-◌, ◌*◌, ◌%◌, ◌^◌, ◌<◌, ◌≤◌, ◌≢◌, max, Bool, true, false, pos, List, [], ◌∷◌, ◌++◌, map, reverse, length, take, drop, replicate, get_or, ext_get_or, All, arith}
use Rattle.std.proofs.lemmas.Nat.{pow_pos, pow-add, shl_whole}
use Rattle.std.proofs.lemmas.List.{append-nil, map-append, reverse-append, length-append, length-map, length-replicate, length-reverse, length-take, take_all, take-append-le, take-take, take-append-drop, get_or-reverse}
use mir.Val.{bits}
use Rattle.zf_spec.{specs.Numbers.{field, value_of}, specs.Kept.{kept_planes}}
use Rattle.zf_spec.{specs.Grid.{IsDimension, IsBlockSize, upto}, specs.Codes.{coefficients_of}}
use Rattle.zf_spec.specs.Planes.{plane, planes_of, reach, tail, code_from, code}
use Rattle.zf_spec.{specs.ReadPlanes.{Begins, planes_in}, proofs.Beginnings.{begins_itself}}
use Rattle.zf_spec.proofs.Fields.{length-field, field-mod, field-zero, sum_below}
use Rattle.zf_spec.{proofs.Full.{full_only}, proofs.Reach.{has_one-zeros, reach_none}}
use Rattle.zf_spec.proofs.PlaneDigits.{length-map-reverse-upto, get_or-map-reverse-upto}
use Rattle.zf_bits.{specs.Reader.{Reader, rest, Reads}, proofs.Words.{field_shifted}}
use Rattle.zf_bits.proofs.Reading.{Reads-append, Reads-same}
use Rattle.zf_coef.{specs.HeldDigits.{digits_in}}
use Rattle.zf_planes.{specs.Spread.{lone_code}, proofs.Runs.{tail_none}, proofs.Peeking.{IsPeeked, peeked}}
use Rattle.zf_block.{specs.Block.{AreAbove}, specs.Decoding.{PassesCode}, specs.ReadBlocks.{uncut_len}}
use Rattle.zf_block.specs.FirstAlone.{digits_down, first_planes, first_code, IsFirstCode, ReadsDigits}
use Rattle.zf_block.{proofs.Kept.{kept_planes-whole}, proofs.ZeroPlanes.{plane-zeros, first_apart, first_coefficients}}

-- ---- digits from the top down

pub length-digits_down : (k u : ℕ) → length (digits_down k u) ≡ k
length-digits_down k u = length-reverse (field k u) ∙ length-field k u

-- those of a number in two parts
pub digits_down-add : (m n u v : ℕ) → v < 2 ^ n → digits_down (m + n) (u * 2 ^ n + v) ≡ digits_down m u ++ digits_down n v
digits_down-add m n u v low =
    let order : m + n ≡ n + m = omega arith in
    ap (λ k. reverse (field k (u * 2 ^ n + v))) order ∙ ap reverse (field_shifted n m u v low) ∙ reverse-append (field n v) (field m u)

-- zeros at the end
pub digits_down-zero : (n : ℕ) → digits_down n 0 ≡ replicate n false
digits_down-zero n = ap reverse (field-zero n) ∙ turned n
  where
    behind : (n : ℕ) → replicate n false ++ false ∷ [] ≡ false ∷ replicate n false
    behind zero = refl
    behind (suc n) = ap (λ (bs : List Bool). false ∷ bs) (behind n)

    turned : (n : ℕ) → reverse (replicate n false) ≡ replicate n false
    turned zero = refl
    turned (suc n) = reverse-append (false ∷ []) (replicate n false) ∙ ap (λ (bs : List Bool). bs ++ false ∷ []) (turned n) ∙ behind n

pub digits_down-shifted : (k n u : ℕ) → digits_down (k + n) (u * 2 ^ n) ≡ digits_down k u ++ replicate n false
digits_down-shifted k n u =
    let whole : u * 2 ^ n ≡ u * 2 ^ n + 0 = omega arith in
    ap (digits_down (k + n)) whole ∙ digits_down-add k n u 0 (pow_pos n) ∙ ap (λ (ds : List Bool). digits_down k u ++ ds) (digits_down-zero n)

-- ---- their code

pub lone_code-append : (ds es : List Bool) → lone_code (ds ++ es) ≡ lone_code ds ++ lone_code es
lone_code-append [] es = refl
lone_code-append (d ∷ ds) es = ap (λ (bs : List Bool). d ∷ false ∷ bs) (lone_code-append ds es)

pub first_code-behind : (n : ℕ) (ds : List Bool) → first_code (replicate n false ++ true ∷ ds) ≡ replicate n false ++ (true ∷ true ∷ false ∷ lone_code ds)
unfolding first_code
first_code-behind zero ds = refl
first_code-behind (suc n) ds = ap (λ (bs : List Bool). false ∷ bs) (first_code-behind n ds)

-- the code of planes of more ranks than one
module _ (n : ℕ) where
  abbrev others : List Bool
  others = replicate (suc n) false

  abbrev held : List Bool → List (List Bool)
  held ds = map (λ d. d ∷ others) ds

  none : tail others ≡ false ∷ []
  none = tail_none others (omega (arith, length-replicate (suc n) false)) (has_one-zeros (suc n))

  still : (d : Bool) → max 1 (reach (d ∷ others)) ≡ 1
  still true = omega (arith, reach_none others (has_one-zeros (suc n)))
  still false = omega (arith, reach_none (false ∷ others) (has_one-zeros (suc (suc n))))

  behind_one : (ds : List Bool) → code_from 1 (held ds) ≡ lone_code ds
  behind_one [] = refl
  behind_one (d ∷ ds) = cc (still d, none, behind_one ds)

  code-held : (ds : List Bool) → code (held ds) ≡ first_code ds
  unfolding first_code
  code-held [] = refl
  code-held (false ∷ ds) =
      let zeros = has_one-zeros (suc (suc n)) in
      let low : max 0 (reach (false ∷ others)) ≡ 0 = omega (arith, reach_none (false ∷ others) zeros) in
      cc (tail_none (false ∷ others) (omega (arith, length-replicate (suc n) false)) zeros, code-held ds)
  code-held (true ∷ ds) =
      let one : max 0 (reach (true ∷ others)) ≡ 1 = omega (arith, reach_none others (has_one-zeros (suc n))) in
      search (rules, none, behind_one)

pub code-first_planes : (size : ℕ) (ds : List Bool) → 2 ≤ size → code (first_planes size ds) ≡ first_code ds
code-first_planes size ds some =
    let others : size - 1 ≡ suc (size - 2) = omega arith in
    ap (λ k. code (map (λ d. d ∷ replicate k false) ds)) others ∙ code-held (size - 2) ds

-- ---- what is read as such

sized : (size : ℕ) (ds : List Bool) → 1 ≤ size → All (λ es. length es ≡ size) (first_planes size ds)
sized size ds some =
    All-map (λ es. length es ≡ size) (λ d. d ∷ replicate (size - 1) false) ds (λ k d below. omega (arith, length-replicate (size - 1) false))

module _ (size k u len : ℕ) (s : List Bool) (some : 2 ≤ size) (is : IsFirstCode k u len s) where
  abbrev planes : List (List Bool)
  planes = first_planes size (digits_down k u)

  coded : code planes ≡ take len s
  coded = code-first_planes size (digits_down k u) some ∙ sym is.bits

  pub code_len : length (code planes) ≡ len
  code_len = ap length coded ∙ omega (arith, length-take len s, is.there)

  pub planes_in-first : planes_in k size s ≡ planes
  planes_in-first =
      let begun : Begins (code planes) s = subst (λ (bs : List Bool). Begins bs s) (sym coded) (subst (Begins (take len s)) (take-append-drop len s) (begins_itself (take len s) (drop len s))) in
      let count : length planes ≡ k = length-map (digits_down k u) (λ d. d ∷ replicate (size - 1) false) ∙ length-digits_down k u in
      sym (full_only size planes s (sized size (digits_down k u) (omega arith)) begun ∙ ap (λ m. planes_in m size s) count)

-- fewer bits, which have the code, have it too
pub first_within : (k u len budget : ℕ) (s : List Bool) → len ≤ budget → budget ≤ length s → IsFirstCode k u len s → IsFirstCode k u len (take budget s)
first_within k u len budget s fits enough is = search (rules, take-take, length-take)

pub kept-first : (size k u len budget : ℕ) (s : List Bool) → 2 ≤ size → len ≤ budget → budget ≤ length s → IsFirstCode k u len s
    → kept_planes budget (planes_in k size (take budget s)) ≡ first_planes size (digits_down k u)
kept-first size k u len budget s some fits enough is =
    let here = first_within k u len budget s fits enough is in search (rules, planes_in-first, kept_planes-whole, code_len)

-- ---- the digits of all ranks

-- of the first alone
pub planes_of-first : (w u size : ℕ) → planes_of w (digits_in w (u ∷ replicate (size - 1) 0)) ≡ first_planes size (digits_down w u)
planes_of-first w u size = each (reverse (upto w)) ∙ ap (first_planes size) down
  where
    digit : ℕ → Bool
    digit k = get_or (field w u) k false

    coefficients : List (List Bool)
    coefficients = digits_in w (u ∷ replicate (size - 1) 0)

    each : (ks : List ℕ) → map (λ k. plane k coefficients) ks ≡ first_planes size (map digit ks)
    each [] = refl
    each (k ∷ ks) =
        ap (λ (ds : List Bool). (digit k ∷ ds) ∷ map (λ k. plane k coefficients) ks) (plane-zeros w k (size - 1))
        ∙ ap (λ (ps : List (List Bool)). (digit k ∷ replicate (size - 1) false) ∷ ps) (each ks)

    down : map digit (reverse (upto w)) ≡ digits_down w u
    down =
        let long = length-map-reverse-upto digit w in
        let fields = length-field w u in
        ext_get_or false (map digit (reverse (upto w))) (digits_down w u) (long ∙ sym (length-digits_down w u))
        (search (rules, get_or-map-reverse-upto, get_or-reverse))

pub first_above : (size k n u : ℕ) → 1 ≤ size → AreAbove size (first_planes size (digits_down k u)) (first_planes size (digits_down (k + n) (u * 2 ^ n)))
first_above size k n u some = (
  n,
  ap (first_planes size) (digits_down-shifted k n u)
      ∙ map-append (λ d. d ∷ replicate (size - 1) false) (digits_down k u) (replicate n false)
      ∙ ap (λ (ps : List (List Bool)). first_planes size (digits_down k u) ++ ps) (blanks n),
)
  where
    blanks : (n : ℕ) → first_planes size (replicate n false) ≡ replicate n (replicate size false)
    blanks zero = refl
    blanks (suc n) = let whole : false ∷ replicate (size - 1) false ≡ replicate size false = first_apart size false some in rw whole (ap (λ (ps : List (List Bool)). replicate size false ∷ ps) (blanks n))

-- ---- what codes hold

size_more : {size : ℕ} → IsBlockSize size → 2 ≤ size
size_more sizes = omega arith

-- one of a budget, of as many planes as there are digits
pub rate_first : (size w u len budget : ℕ) (s : List Bool) → IsBlockSize size → len ≤ budget → budget ≤ length s → IsFirstCode w u len s
    → AreAbove size (kept_planes budget (planes_in w size (take budget s))) (planes_of w (digits_in w (u ∷ replicate (size - 1) 0)))
rate_first size w u len budget s sizes fits enough is =
    let kept = kept_planes budget (planes_in w size (take budget s)) in
    (0, planes_of-first w u size ∙ sym (append-nil kept ∙ kept-first size w u len budget s (size_more sizes) fits enough is))

-- one without, whose planes lie above others of zeros
pub uncut_first : (size w k u len v : ℕ) (s : List Bool) → IsBlockSize size → k ≤ w → w ≤ 64 → v ≡ u * 2 ^ (w - k) % 2 ^ 64 → IsFirstCode k u len s
    → AreAbove size (planes_in k size s) (planes_of w (digits_in w (v ∷ replicate (size - 1) 0)))
uncut_first size w k u len v s sizes within word is here =
    let n = w - k in
    let all : k + n ≡ w = omega arith in
    let whole : v ≡ u * 2 ^ n = is ∙ shl_whole u k n 64 here.small (omega arith) in
    let above = first_above size k n u (omega arith) in search (rules, planes_of-first, planes_in-first)

-- the coefficients that they stand for
pub coefficients_first : (w : Width) (d n u size : ℕ) → IsDimension d → n ≡ bits w → size ≡ 4 ^ d
    → coefficients_of w d (planes_of n (digits_in n (u ∷ replicate (size - 1) 0))) ≡ value_of w (field (bits w) u) ∷ replicate (4 ^ d - 1) (pos 0)
coefficients_first w d n u size dims width is = cc (first_coefficients w d u (value_of w (field (bits w) u)) dims refl)

-- its bits are passed
pub passes_first : (size k u len : ℕ) (old new : Reader) → IsBlockSize size → IsFirstCode k u len (rest old) → Reads old new (take len (rest old))
    → PassesCode (uncut_len k size (rest old)) old new
passes_first size k u len old new sizes is reads =
    let s = rest old in
    let long : len ≡ uncut_len k size s = sym (ap (λ ps. length (code ps)) (planes_in-first size k u len s (size_more sizes) is) ∙ code_len size k u len s (size_more sizes) is) in
    let Passed : ℕ → Type 0 = λ n. Reads old new (take n s) in
    record { whole = omega (arith, long, is.there); passed = subst Passed long reads }

-- ---- digits as they are read

-- two parts, one behind the other
pub ReadsDigits-append : {a b c : Reader} (m n u v : ℕ) → ReadsDigits m u a b → ReadsDigits n v b c → ReadsDigits (m + n) (u * 2 ^ n + v) a c
ReadsDigits-append m n u v first second = record {
  reads = Reads-same (Reads-append first.reads second.reads) (sym (ap lone_code (digits_down-add m n u v second.small) ∙ lone_code-append (digits_down m u) (digits_down n v)));
  small = sum_below m n u v first.small second.small;
}

-- as a word has them
pub joined : (m n u v : ℕ) → u < 2 ^ m → v < 2 ^ n → m + n ≤ 63 → (u * 2 ^ n % 2 ^ 64 ≡ u * 2 ^ n) × (u * 2 ^ n + v < 2 ^ 64)
joined m n u v high low few =
    omega (arith, pow_mono {i = m + n} {j = 63} few, shl_whole u m n 64 high (omega arith), sum_below m n u v high low)

-- the first one, behind the planes of zeros, and those behind it
pub first_read : {old zeros one new : Reader} (z n d len : ℕ) → Reads old zeros (replicate z false) → Reads zeros one (true ∷ true ∷ false ∷ []) → ReadsDigits n d one new → len ≡ new.at - old.at
    → IsFirstCode (z + (1 + n)) (2 ^ n + d) len (rest old)
first_read {old} {zeros} {one} {new} z n d len above first behind count =
    let k = 1 + n in
    let twice = pow-add 2 1 n in
    let u = 2 ^ n + d in
    let bits = first_code (digits_down (z + k) u) in
    let whole : 1 * 2 ^ n + d ≡ u = omega arith in
    let alone : u ≡ 0 * 2 ^ k + u = omega arith in
    let below : 0 * 2 ^ k + u < 2 ^ (z + k) = sum_below z k 0 u (pow_pos z) (omega (arith, behind.small, twice)) in
    let all : digits_down (z + k) u ≡ replicate z false ++ (true ∷ digits_down n d) = search (rules, digits_down-add, digits_down-zero) in
    let reads : Reads old new bits = Reads-same (Reads-append above (Reads-append first behind.reads)) (cc (first_code-behind z (digits_down n d))) in
    let long : length bits ≡ len = omega (arith, reads.place, count) in search (rules, take-append-le, take_all, length-append)

-- as the code puts it together
pub first_fits : (n d : ℕ) → d < 2 ^ n → n ≤ 63 → 1 * 2 ^ n % 2 ^ 64 + d < 2 ^ 64
first_fits n d small few = search (rules, pow_mono, shl_whole)

pub whole_read : {old zeros one new : Reader} (prec z v d n len a b : ℕ) → z ≤ prec → z ≢ prec → prec ≤ 64 → n ≡ prec - z - 1 → IsPeeked v (rest zeros) → v % 8 ≡ 3 → 3 ≤ length (rest zeros)
    → take z (rest old) ≡ replicate z false → Reads old zeros (take z (rest old)) → Reads zeros one (take 3 (rest zeros)) → ReadsDigits n d one new → len ≡ b - a → a ≡ old.at → b ≡ new.at
    → IsFirstCode prec (1 * 2 ^ n % 2 ^ 64 + d) len (rest old)
whole_read {old} {zeros} {one} {new} prec z v d n len a b within some few below peek three there blank above first behind count at end =
    let s = rest zeros in
    let seen : field 3 v ≡ true ∷ true ∷ false ∷ [] = sym (field-mod 3 v) ∙ ap (field 3) three in
    let group : Reads zeros one (true ∷ true ∷ false ∷ []) = Reads-same first (sym (peeked s v 3 peek (omega arith) there) ∙ seen) in
    let read = first_read z n d len (Reads-same above blank) group behind (omega (arith, count, at, end)) in
    let all : z + (1 + n) ≡ prec = omega arith in
    let word : 2 ^ n + d ≡ 1 * 2 ^ n % 2 ^ 64 + d = omega (arith, shl_whole 1 1 n 64 (omega arith) (omega arith)) in
    rw (all, word) at read
