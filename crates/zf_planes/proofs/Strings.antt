-- Strings: planes of four digits in one number, and their code.
use Rattle.std.proofs.Common.{◌≡◌, ℕ, zero, suc, ◌+◌, ◌-◌, ◌*◌, ◌/◌, ◌%◌, ◌^◌, ◌<◌, ◌≤◌, min, max, Bool, false, List, [], ◌∷◌, ◌++◌, length, append_assoc, take, replicate, ⊎_elim, refl, sym, ap, ◌∙◌, arith, rules}
use Rattle.std.{proofs.lemmas.List.{length-take}, proofs.lemmas.Nat.{pow-add}}
use Rattle.std.{proofs.lemmas.Bool.{cases_lt}, proofs.lemmas.List.Elements.{All-nil, All-cons}}
use Rattle.zf_spec.{specs.Numbers.{field}, proofs.Fields.{length-field, field-add, field-mod}}
use Rattle.zf_spec.specs.Planes.{plane_code, code_from, reach, reach_of_all, AreOfSize}
use Rattle.zf_spec.proofs.Reach.{reach-le}
use Rattle.std.{specs.Int.Bits.{bit_or}}
use Rattle.zf_bits.specs.Writer.{Writer}
use Rattle.zf_planes.{specs.Fours.{string_planes, IsAsGood, IsCodeOfTwo, GoesOnBehind}, proofs.Zeros.{field_before}}
use Rattle.zf_planes.{specs.Writes.{Remains}, proofs.LastRank.{code_of_three}}
use Rattle.zf_planes.{proofs.Budgets.{take_append, Remains-same}, proofs.Gathering.{take_field, bits_behind}}

-- ---- the code of planes goes on behind bits that were put together

-- by two planes
pub pair_of_string : (n k string l v a : ℕ) → 1 < k → IsCodeOfTwo n string l v a → GoesOnBehind n (string_planes k string) l v a (string_planes (k - 2) (string / 256))
unfolding string_planes
pair_of_string n (suc (suc k)) string l v a some two =
    let left : suc (suc k) - 2 ≡ k = omega arith in
    let below : string / 256 ≡ string / 16 / 16 = omega arith in
    let rest = code_from a (string_planes k (string / 16 / 16)) in
    let first = plane_code n (field 4 string) in
    let one = field-mod 4 string in
    let next = field-mod 4 (string / 16) in
    rw (left, below) (record {
      bits = cc (one, next, two.bits, two.above, append_assoc first (plane_code (max n (reach (field 4 string))) (field 4 (string / 16))) rest);
      reached = grind (arith, one, next, two.above);
      small = two.small;
      len = two.len;
    })
pair_of_string n k string l v a some two = absurd (omega arith)

-- a string has no digits behind its planes, once two of them are gone
pub string_small : (k string : ℕ) → 0 < k → string < 2 ^ (4 * k) → string / 256 < 2 ^ (4 * (k - 2))
string_small zero string some small = absurd (omega arith)
string_small (suc zero) string some small = omega arith
string_small (suc (suc k)) string some small =
    let left : suc (suc k) - 2 ≡ k = omega arith in
    let count : 4 * suc (suc k) ≡ 8 + 4 * k = omega arith in
    rw left (omega (arith, ap (λ n. 2 ^ n) count, pow-add 2 8 (4 * k)))

-- no plane is left
pub string_end : (planes above string : ℕ) → planes ≤ 0 → (code_from above (string_planes planes string) ≡ []) × (reach_of_all (string_planes planes string) ≡ 0)
unfolding string_planes
string_end zero above string none = (refl, refl)
string_end (suc planes) above string none = absurd (omega arith)

zero_plane : (m : ℕ) → m ≤ 4 → plane_code m (field 4 0) ≡ replicate (min (m + 1) 4) false
zero_plane zero few = refl
zero_plane (suc zero) few = refl
zero_plane (suc (suc zero)) few = refl
zero_plane (suc (suc (suc zero))) few = refl
zero_plane (suc (suc (suc (suc zero)))) few = refl
zero_plane m few = absurd (omega arith)

-- by the last one, whose code stands in front of that of a plane of zeros
pub last_of_string : (n k string l v a : ℕ) → n < 3 → k ≡ 1 → IsCodeOfTwo n (string % 16) l v a
    → (min (a + 1) 4 ≤ l) × GoesOnBehind n (string_planes k string) (l - min (a + 1) 4) v a (string_planes (k - 2) (string / 256))
unfolding string_planes
last_of_string n k string l v a few is two =
    let ds = field 4 (string % 16) in
    let first : string % 16 % 16 ≡ string % 16 = omega arith in
    let second : string % 16 / 16 % 16 ≡ 0 = omega arith in
    let none : reach (field 4 0) ≡ 0 = refl in
    let reached : a ≡ max n (reach ds) = (rw (first, second) at two.above) ∙ omega (arith, none) in
    let within : a ≤ 4 = omega (arith, reached, reach-le ds, length-field 4 (string % 16)) in
    let code : field l v ≡ plane_code n ds ++ replicate (min (a + 1) 4) false =
    (rw (first, second, ← reached) at two.bits) ∙ ap (λ (bs : List Bool). plane_code n ds ++ bs) (zero_plane a within) in
    let found = field_before l (min (a + 1) 4) v (plane_code n ds) two.small code in
    let long : length (plane_code n ds) ≡ l - min (a + 1) 4 = omega (arith, found.2) in
    let here = rw long at found in
    let same = field-mod 4 string in search rules

-- the first planes of a string
pub take-fours : (m k string : ℕ) → take m (string_planes (m + k) string) ≡ string_planes m string
unfolding string_planes
take-fours zero k string = refl
take-fours (suc m) k string =
    let more : suc m + k ≡ suc (m + k) = omega arith in
    ap (λ n. take (suc m) (string_planes n string)) more ∙ ap (λ (ps : List (List Bool)). field 4 string ∷ ps) (take-fours m k (string / 16))

-- planes and those below them
pub code_from-append : (n : ℕ) (planes below : List (List Bool)) → code_from n (planes ++ below) ≡ code_from n planes ++ code_from (max n (reach_of_all planes)) below
code_from-append n [] below = let same : max n 0 ≡ n = omega arith in rw same refl
code_from-append n (ds ∷ planes) below =
    let far : max (max n (reach ds)) (reach_of_all planes) ≡ max n (max (reach ds) (reach_of_all planes)) = omega arith in
    let rest = code_from (max n (reach ds)) planes in
    ap (λ (bs : List Bool). plane_code n ds ++ bs) (code_from-append (max n (reach ds)) planes below ∙ ap (λ m. rest ++ code_from m below) far)
    ∙ sym (append_assoc (plane_code n ds) rest (code_from (max n (max (reach ds) (reach_of_all planes))) below))

pub reach_of_all-append : (ps qs : List (List Bool)) → reach_of_all (ps ++ qs) ≡ max (reach_of_all ps) (reach_of_all qs)
reach_of_all-append [] qs = omega arith
reach_of_all-append (p ∷ ps) qs = omega (arith, reach_of_all-append ps qs)

-- ---- three ranks have had a one

four_digits : (k string : ℕ) → AreOfSize 4 (string_planes k string)
unfolding string_planes
four_digits zero string = All-nil (λ es. length es ≡ 4)
four_digits (suc k) string = All-cons (λ es. length es ≡ 4) (field 4 string) (string_planes k (string / 16)) (length-field 4 string) (four_digits k (string / 16))

whole_string : (k string : ℕ) → code_from 4 (string_planes k string) ≡ field (4 * k) string
unfolding string_planes
whole_string zero string = refl
whole_string (suc k) string =
    let digits = field 4 string in
    let far : max 4 (reach digits) ≡ 4 = omega (arith, reach-le digits, length-field 4 string) in
    let count : 4 * suc k ≡ 4 + 4 * k = omega arith in
    cc (whole_string k (string / 16), field-add 4 (4 * k) string)

pub own_string : (n k string : ℕ) → 3 ≤ n → n ≤ 4 → code_from n (string_planes k string) ≡ field (4 * k) string
own_string n k string low high = code_of_three n 4 (string_planes k string) low high (omega arith) (omega arith) (four_digits k string) ∙ whole_string k string

pub reach_of_string-le : (k string : ℕ) → reach_of_all (string_planes k string) ≤ 4
unfolding string_planes
reach_of_string-le zero string = omega arith
reach_of_string-le (suc k) string = omega (arith, reach-le (field 4 string), length-field 4 string, reach_of_string-le k (string / 16))

-- ---- what remains

-- only as many bits as are left of the budget matter
pub Remains-cut : {old now : Writer} {budget left : ℕ} {whole : List Bool} (rest rest' : List Bool) → take left rest ≡ take left rest' → Remains old now budget left whole rest → Remains old now budget left whole rest'
Remains-cut {old} {now} {budget} {left} {whole} rest rest' same remains =
    let long : min left (length rest) ≡ min left (length rest') = sym (length-take left rest) ∙ ap length same ∙ length-take left rest' in search rules

-- and nothing of what is behind as many bits as are left
pub Remains-reached : {old now : Writer} {budget left : ℕ} {whole : List Bool} (l v : ℕ) (rest rest' : List Bool) → left ≤ l → Remains old now budget left whole (field l v ++ rest) → Remains old now budget left whole (field l v ++ rest')
Remains-reached {old} {now} {budget} {left} {whole} l v rest rest' few remains =
    let none : left - length (field l v) ≡ 0 = omega (arith, few, length-field l v) in
    Remains-cut (field l v ++ rest) (field l v ++ rest') (cc (take_append left (field l v) rest, take_append left (field l v) rest', none)) remains

-- nor, where no more than a word is left, what falls out of one: digits behind the bits of a number
field_cut : (left l n a v : ℕ) → l < 64 → min left (l + n) ≤ 64 → a < 2 ^ l → take left (field (l + n) (bit_or a (v * 2 ^ l % 2 ^ 64))) ≡ take left (field l a ++ field n v)
field_cut left l n a v short within small =
    let m = min left (l + n) in
    let bits = field l a in
    let word : min m (l + (64 - l)) ≡ m = omega arith in
    let first : min m l ≡ min left l = omega arith in
    let second : min (m - length bits) (64 - l) ≡ min (left - length bits) n = omega (arith, length-field l a) in
    cc (
      take_field left (l + n) (bit_or a (v * 2 ^ l % 2 ^ 64)),
      take_field m (l + (64 - l)) (bit_or a (v * 2 ^ l % 2 ^ 64)),
      word,
      bits_behind l (64 - l) a v (omega arith) small,
      take_append m bits (field (64 - l) v),
      take_append left bits (field n v),
      take_field m l a,
      take_field left l a,
      first,
      take_field (m - length bits) (64 - l) v,
      take_field (left - length bits) n v,
      second,
    )

pub Remains-word : {old now : Writer} {budget left : ℕ} {whole : List Bool} (l n a v : ℕ) → l < 64 → min left (l + n) ≤ 64 → a < 2 ^ l → Remains old now budget left whole (field l a ++ field n v)
    → Remains old now budget left whole (field (l + n) (bit_or a (v * 2 ^ l % 2 ^ 64)))
Remains-word {old} {now} {budget} {left} {whole} l n a v short within small remains =
    Remains-cut (field l a ++ field n v) (field (l + n) (bit_or a (v * 2 ^ l % 2 ^ 64))) (sym (field_cut left l n a v short within small)) remains

-- how far the ones reach above counts only while more bits are left than were put together
as_good : (m n : ℕ) (planes : List (List Bool)) → IsAsGood m n → m ≤ 4 → n ≤ 4 → AreOfSize 4 planes → code_from n planes ≡ code_from m planes
as_good m n planes same high high' sizes = ⊎_elim
    (λ (low : n < 3). let one : n ≡ m = omega arith in ap (λ k. code_from k planes) one)
    (λ (three : 3 ≤ n). code_of_three n m planes three high' (omega arith) high sizes)
    (cases_lt n 3)

pub Remains-above : {old now : Writer} {budget left : ℕ} {whole : List Bool} (l v m n : ℕ) (planes : List (List Bool)) → (l < left → IsAsGood m n) → m ≤ 4 → n ≤ 4 → AreOfSize 4 planes
    → Remains old now budget left whole (field l v ++ code_from n planes) → Remains old now budget left whole (field l v ++ code_from m planes)
Remains-above {old} {now} {budget} {left} {whole} l v m n planes same high high' sizes remains = ⊎_elim
    (λ (some : l < left). Remains-same remains (ap (λ (bs : List Bool). field l v ++ bs) (as_good m n planes (same some) high high' sizes)))
    (λ (none : left ≤ l). Remains-reached l v (code_from n planes) (code_from m planes) none remains)
    (cases_lt l left)
