-- The top planes of words: some and those below them, planes of fewer digits, and sixteen planes of four words as a string.
use Rattle.std.proofs.Common.{rules, ◌≡◌, ℕ, zero, suc, ◌+◌, ◌-◌, ◌*◌, ◌/◌, ◌%◌, ◌^◌, ◌<◌, ◌≤◌, min, Bool, true, false, eqb, List, [], ◌∷◌, ◌++◌, length, map, take, drop, get_or, get_or-take, replicate, ⊎_elim, take-take, refl, sym, ap, ◌∙◌, arith, pow-suc, length-drop}
use Rattle.std.{proofs.Math.Nat.{pow-zero}, proofs.lemmas.Bool.{eqb-true, cases_lt}}
use Rattle.std.{proofs.lemmas.Nat.{shl-shr, shr-shr}, proofs.lemmas.List.Elements.{All-map}}
use Rattle.std.proofs.lemmas.List.{length-map, get_or-map, map-append, get_or-drop, length-take, take_at, take-append-drop, append-nil}
use Rattle.std.proofs.lemmas.Simd.{map-map}
use Rattle.zf_bits.{proofs.Fields.{digit_value_le}, specs.Writer.{Writer}}
use Rattle.zf_bits.{proofs.Words.{shl_in_word}}
use Rattle.zf_spec.{specs.Numbers.{field, number, is_odd, digit_value}, specs.Grid.{count_from, upto}}
use Rattle.zf_spec.{specs.Planes.{planes_of, code, code_from, AreOfSize}, proofs.PlaneCode.{length-code-le}}
use Rattle.zf_spec.proofs.Fields.{field-mod, field-number, field-zero, get_or-field}
use Rattle.zf_spec.proofs.Counting.{length-count_from, get_or-count_from, count_from-add, from_places, length-map-upto, four_elements}
use Rattle.zf_spec.proofs.PlaneDigits.{length-planes_of, get_or-planes_of, planes_of-length}
use Rattle.zf_planes.{specs.Fours.{string_planes}, specs.Spread.{top_digit, top_planes, spread}}
use Rattle.zf_planes.{specs.declared.entries.TheConstants.{SPREAD}, specs.Writes.{Remains}}
use Rattle.zf_planes.{proofs.Tables.{each_below, each_below-true}, proofs.Zeros.{zero_code}}
use Rattle.zf_planes.{proofs.Budgets.{Remains-start, Remains-same}, proofs.Strings.{take-fours}}

-- ---- digits of shifted words

-- only the lowest bits count
pub odd_low : (v j t : ℕ) → t < j → is_odd (v % 2 ^ j / 2 ^ t) ≡ is_odd (v / 2 ^ t)
odd_low v j t below = sym (get_or-field j (v % 2 ^ j) t false below) ∙ ap (λ (bs : List Bool). get_or bs t false) (field-mod j v) ∙ get_or-field j v t false below

-- what is below the top m digits
abbrev pub below : ℕ → ℕ → ℕ
below m word = word * 2 ^ m % 2 ^ 64

top_digit-below : (word m i : ℕ) → m + i < 64 → top_digit (below m word) i ≡ top_digit word (m + i)
top_digit-below word m i within =
    let j = 64 - m in
    let t = 63 - (m + i) in
    let parts : 64 ≡ j + m = omega arith in
    let place : 63 - i ≡ m + t = omega arith in
    cc (
      shl_in_word j m word,
      shr-shr (word % 2 ^ j * 2 ^ m) m t,
      shl-shr (word % 2 ^ j) m,
      odd_low word j t (omega arith),
    )

-- ---- the top planes and those below them

-- the same of numbers from another one on
pub map-from : {X : Type 0} (f g : ℕ → X) (m k : ℕ) (d : X) → ((i : ℕ) → i < k → f (m + i) ≡ g i) → map g (upto k) ≡ map f (count_from m k)
map-from f g m k d same =
    from_places g k d (map f (count_from m k)) (length-map (count_from m k) f ∙ length-count_from m k)
    (λ i here. get_or-map f (count_from m k) i 0 d (omega (arith, length-count_from m k)) ∙ ap f (get_or-count_from m k i 0 here) ∙ same i here)

map_each : {X Y : Type 0} (f g : X → Y) (xs : List X) → ((x : X) → f x ≡ g x) → map f xs ≡ map g xs
map_each f g xs same = search (rules, same)

-- plane i of words whose top m digits are gone
plane-below : (words : List ℕ) (m i : ℕ) → m + i < 64 → map (λ word. top_digit word (m + i)) words ≡ map (λ word. top_digit word i) (map (below m) words)
plane-below words m i within = search (rules, map_each, top_digit-below, map-map)

pub top_planes-split : (k m : ℕ) (words : List ℕ) → m ≤ k → k ≤ 64 → top_planes k words ≡ top_planes m words ++ top_planes (k - m) (map (below m) words)
unfolding top_planes
top_planes-split k m words within most =
    let f : ℕ → List Bool = λ i. map (λ word. top_digit word i) words in
    let g : ℕ → List Bool = λ i. map (λ word. top_digit word i) (map (below m) words) in
    let parts : k ≡ m + (k - m) = omega arith in
    let from : 0 + m ≡ m = omega arith in
    cc (
      count_from-add 0 m (k - m),
      map-append f (upto m) (count_from (0 + m) (k - m)),
      map-from f g m (k - m) [] (λ i here. plane-below words m i (omega arith)),
    )

pub length-top_planes : (k : ℕ) (words : List ℕ) → length (top_planes k words) ≡ k
unfolding top_planes
length-top_planes k words = length-map-upto (λ i. map (λ word. top_digit word i) words) k

pub top_planes-sizes : (k : ℕ) (words : List ℕ) → length words ≡ 4 → AreOfSize 4 (top_planes k words)
unfolding top_planes
top_planes-sizes k words four =
    All-map (λ es. length es ≡ 4) (λ i. map (λ word. top_digit word i) words) (upto k) (λ j d within. length-map words (λ word. top_digit word (get_or (upto k) j d)) ∙ four)

pub no_top_planes : (k : ℕ) (words : List ℕ) → k ≤ 0 → top_planes k words ≡ []
unfolding top_planes
no_top_planes zero words none = refl
no_top_planes (suc k) words none = absurd (omega arith)

-- the planes of digits from the one of number z on are top planes
pub planes-from : (w p z : ℕ) (words : List ℕ) → w ≤ 64 → p ≤ w → z ≤ p → drop z (take p (planes_of w (map (field w) words))) ≡ top_planes (p - z) (map (below (64 - w + z)) words)
unfolding top_planes
planes-from w p z words small within few =
    let m = 64 - w + z in
    let cs = map (field w) words in
    let ps = planes_of w cs in
    let g : ℕ → List Bool = λ i. map (λ word. top_digit word i) (map (below m) words) in
    let long : length (drop z (take p ps)) ≡ p - z = omega (arith, length-drop z (take p ps), length-take p ps, length-planes_of w cs) in
    sym (from_places g (p - z) [] (drop z (take p ps)) long
    (λ i here.
    let j = w - 1 - (z + i) in
    let place : j ≡ 63 - (m + i) = omega arith in
    cc (
      get_or-drop z (take p ps) i [],
      get_or-take p ps (z + i) [] (omega arith),
      get_or-planes_of w cs (z + i) (omega arith),
      map-map (λ (ds : List Bool). get_or ds j false) (field w) words,
      map_each (λ word. get_or (field w word) j false) (λ word. top_digit word (m + i)) words
          (λ word. cc (get_or-field w word j false (omega arith))),
      plane-below words m i (omega arith),
    )))

-- ---- digits apart

spread_same : (b k : ℕ) (f g : ℕ → Bool) → ((i : ℕ) → i < k → f i ≡ g i) → spread b k f ≡ spread b k g
unfolding spread
spread_same b zero f g same = refl
spread_same b (suc k) f g same =
    ap (λ d. digit_value d + b * spread b k (λ i. f (suc i))) (same 0 (omega arith))
    ∙ ap (λ n. digit_value (g 0) + b * n) (spread_same b k (λ i. f (suc i)) (λ i. g (suc i)) (λ i here. same (suc i) (omega arith)))

-- some digits and those behind them
spread-add : (b m k : ℕ) (f g : ℕ → Bool) → ((i : ℕ) → i < k → f (m + i) ≡ g i) → spread b (m + k) f ≡ spread b m f + b ^ m * spread b k g
unfolding spread
spread-add b zero k f g same = search (rules, spread_same, pow-zero)
spread-add b (suc m) k f g same =
    let more : suc m + k ≡ suc (m + k) = omega arith in
    let rest : spread b (m + k) (λ i. f (suc i)) ≡ spread b m (λ i. f (suc i)) + b ^ m * spread b k g =
    spread-add b m k (λ i. f (suc i)) g (λ i here. let place : suc (m + i) ≡ suc m + i = omega arith in ap f place ∙ same i here) in
    ap (λ n. spread b n f) more
    ∙ ap (λ n. digit_value (f 0) + b * n) rest
    ∙ omega (arith, ap (λ p. p * spread b k g) (pow-suc b m))

pub spread-lt : (k : ℕ) (f : ℕ → Bool) → 15 * spread 16 k f < 16 ^ k
unfolding spread
spread-lt zero f = omega arith
spread-lt (suc k) f = omega (arith, digit_value_le (f 0), spread-lt k (λ i. f (suc i)), pow-suc 16 k)

-- of the top two bytes of a word
pub spread_of_bytes : (b word prefix back : ℕ) → word < 2 ^ 64 → prefix ≡ spread b 8 (λ i. is_odd (word / 2 ^ 56 / 2 ^ (7 - i))) → back ≡ spread b 8 (λ i. is_odd (word / 2 ^ 48 % 2 ^ 8 / 2 ^ (7 - i)))
    → prefix + b ^ 8 * back ≡ spread b 16 (top_digit word)
spread_of_bytes b word prefix back small is_prefix is_back =
    let high : prefix ≡ spread b 8 (top_digit word) =
    is_prefix
    ∙ spread_same b 8 (λ i. is_odd (word / 2 ^ 56 / 2 ^ (7 - i))) (top_digit word)
    (λ i here. let place : 56 + (7 - i) ≡ 63 - i = omega arith in ap is_odd (shr-shr word 56 (7 - i)) ∙ ap (λ n. is_odd (word / 2 ^ n)) place) in
    let both : spread b 16 (top_digit word) ≡ spread b 8 (top_digit word) + b ^ 8 * spread b 8 (λ i. is_odd (word / 2 ^ 48 % 2 ^ 8 / 2 ^ (7 - i))) =
    spread-add b 8 8 (top_digit word) (λ i. is_odd (word / 2 ^ 48 % 2 ^ 8 / 2 ^ (7 - i)))
    (λ i here.
    let place : 63 - (8 + i) ≡ 48 + (7 - i) = omega arith in
    ap (λ n. is_odd (word / 2 ^ n)) place ∙ ap is_odd (sym (shr-shr word 48 (7 - i))) ∙ sym (odd_low (word / 2 ^ 48) 8 (7 - i) (omega arith))) in
    ap (λ n. n + b ^ 8 * back) high ∙ ap (λ n. spread b 8 (top_digit word) + b ^ 8 * n) is_back ∙ sym both

-- ---- the table, by computation

test_spread : each_below (λ b. eqb (get_or SPREAD b 0) (spread 16 8 (λ i. is_odd (b / 2 ^ (7 - i))))) 256 ≡ true
unfolding spread
test_spread = refl

spread_of_entry : (b e : ℕ) → b < 256 → e ≡ get_or SPREAD b 0 → e ≡ spread 16 8 (λ i. is_odd (b / 2 ^ (7 - i)))
spread_of_entry b e eight is = is ∙ eqb-true _ _ (each_below-true (λ b. eqb (get_or SPREAD b 0) (spread 16 8 (λ i. is_odd (b / 2 ^ (7 - i))))) 256 b test_spread eight)

-- the entries of the top two bytes of a word
pub spread_of_entries : (word prefix back : ℕ) → word < 2 ^ 64 → prefix ≡ get_or SPREAD (word / 2 ^ 56) 0 → back ≡ get_or SPREAD (word / 2 ^ 48 % 2 ^ 8) 0
    → prefix + 2 ^ 32 * back ≡ spread 16 16 (top_digit word)
spread_of_entries word prefix back small is_prefix is_back =
    let first = spread_of_entry (word / 2 ^ 56) prefix (omega arith) is_prefix in
    let second = spread_of_entry (word / 2 ^ 48 % 2 ^ 8) back (omega arith) is_back in
    spread_of_bytes 16 word prefix back small first second

-- ---- four words as a string

fours-next : (k v : ℕ) (ds : List Bool) (r : ℕ) → length ds ≡ 4 → v ≡ number ds + 16 * r → number ds < 16 → string_planes (suc k) v ≡ ds ∷ string_planes k r
unfolding string_planes
fours-next k v ds r four is small =
    let low : v % 16 ≡ number ds = omega arith in
    let high : v / 16 ≡ r = omega arith in
    cc (field-mod 4 v, field-number 4 ds four)

string-is : (k : ℕ) (f g h e : ℕ → Bool) → string_planes k (spread 16 k f + 2 * spread 16 k g + 4 * spread 16 k h + 8 * spread 16 k e) ≡ map (λ i. f i ∷ g i ∷ h i ∷ e i ∷ []) (upto k)
unfolding string_planes spread
string-is zero f g h e = refl
string-is (suc k) f g h e =
    let next = λ (d : ℕ → Bool) (i : ℕ). d (suc i) in
    let row : ℕ → List Bool = λ i. f i ∷ g i ∷ h i ∷ e i ∷ [] in
    let row' : ℕ → List Bool = λ i. f (suc i) ∷ g (suc i) ∷ h (suc i) ∷ e (suc i) ∷ [] in
    let r = spread 16 k (next f) + 2 * spread 16 k (next g) + 4 * spread 16 k (next h) + 8 * spread 16 k (next e) in
    let small : number (row 0) < 16 = omega (arith, digit_value_le (f 0), digit_value_le (g 0), digit_value_le (h 0), digit_value_le (e 0)) in
    let sum : spread 16 (suc k) f + 2 * spread 16 (suc k) g + 4 * spread 16 (suc k) h + 8 * spread 16 (suc k) e
    ≡ number (row 0) + 16 * r = omega arith in
    cc (
      fours-next k _ (row 0) r refl sum small,
      string-is k (next f) (next g) (next h) (next e),
      map-from row row' 1 k [] (λ i here. let place : 1 + i ≡ suc i = omega arith in ap row place),
    )

pub string_of_words : (k : ℕ) (words : List ℕ) → length words ≡ 4
    → string_planes k (spread 16 k (top_digit (get_or words 0 0)) + 2 * spread 16 k (top_digit (get_or words 1 0)) + 4 * spread 16 k (top_digit (get_or words 2 0)) + 8 * spread 16 k (top_digit (get_or words 3 0))) ≡ top_planes k words
unfolding top_planes
string_of_words k words four = grind (arith, string-is, four_elements)

-- the planes of a string of sixteen, as many as there are, and those below them
pub string-split : (planes count string : ℕ) (words : List ℕ) → planes ≤ 64 → count ≡ min planes 16 → string_planes 16 string ≡ top_planes 16 words
    → top_planes planes words ≡ string_planes count string ++ top_planes (planes - count) (map (below 16) words)
string-split planes count string words most is same = ⊎_elim
    (λ (few : planes < 16).
    let all : count ≡ planes = omega arith in
    let parts : 16 ≡ planes + (16 - planes) = omega arith in
    let first : string_planes planes string ≡ top_planes planes words =
    cc (
      take-fours planes (16 - planes) string,
      top_planes-split 16 planes words (omega arith) (omega arith),
      take_at (top_planes planes words) (top_planes (16 - planes) (map (below planes) words)) planes (length-top_planes planes words),
    ) in
    let none : top_planes (planes - count) (map (below 16) words) ≡ [] = no_top_planes (planes - count) (map (below 16) words) (omega arith) in
    sym (ap (λ (ps : List (List Bool)). string_planes count string ++ ps) none ∙ append-nil (string_planes count string) ∙ ap (λ n. string_planes n string) all ∙ first))
    (search (rules, top_planes-split))
    (cases_lt planes 16)

-- ---- digits of four coefficients, behind planes without a one

-- the code of the planes of four digits remains to be written, of which the first z have no one: a zero for each
pub remains_four : (out : Writer) (budget w p z len : ℕ) (words rest : List ℕ) → length words ≡ 4 → w ≤ 64 → p ≤ w → z ≤ p → take z (planes_of w (map (field w) words)) ≡ replicate z (replicate 4 false)
    → min budget (4 * p + 4) ≤ out.room → len ≡ z → rest ≡ map (below (64 - w + z)) words
    → Remains out out budget budget (code (take p (planes_of w (map (field w) words)))) (field len 0 ++ code_from 0 (top_planes (p - z) rest))
remains_four out budget w p z len words rest four small within few zeros room is behind =
    let cs = map (field w) words in
    let ps = planes_of w cs in
    let top = take p ps in
    let long : length top ≡ p = omega (arith, length-take p ps, length-planes_of w cs) in
    let wide : length cs ≡ 4 = length-map words (field w) ∙ four in
    let sizes : AreOfSize 4 top =
    λ k d here. ap length (get_or-take p ps k d (omega arith)) ∙ planes_of-length w cs k d (omega (arith, length-planes_of w cs)) ∙ wide in
    let most = length-code-le 4 top sizes in
    let first : take z top ≡ replicate z (replicate 4 false) = take-take z p ps few ∙ zeros in
    Remains-same (Remains-start out budget (code top) (omega (arith, room, most, long)))
    (cc (
      take-append-drop z top,
      zero_code z 4 (drop z top) (omega arith),
      planes-from w p z words small within few,
      field-zero z,
    ))
