-- Digits of four coefficients in words, and in four lanes of one word.
use Rattle.std.proofs.lemmas.Simd.{map-map}
use Rattle.std.proofs.Common.{rules, ◌≡◌, ℕ, zero, suc, ◌+◌, ◌-◌, ◌*◌, ◌/◌, ◌%◌, ◌^◌, ◌<◌, ◌≤◌, Bool, false, List, [], ◌∷◌, ◌++◌, length, map, get_or, replicate, refl, sym, ap, ◌∙◌, arith, ext_get_or, pow-suc, lit<, append_assoc}
use Rattle.std.{proofs.Math.Nat.{div-eq_of_lt, mod-eq_of_lt, pow-le-pow_right}, specs.List.{All}}
use Rattle.std.proofs.lemmas.Nat.{pow_pos, shr-shr, shr_high, mod_low, shl_whole}
use Rattle.std.{proofs.lemmas.List.{length-map, append-nil}, proofs.lemmas.List.Elements.{All-cons, All-nil}}
use Rattle.zf_spec.{proofs.PlaneDigits.{length-planes_of, get_or-planes_of}, specs.Numbers.{is_odd, field}}
use Rattle.zf_spec.{specs.Planes.{plane, planes_of, AreOfSize}, proofs.Fields.{get_or-field, field-mod, sum_below}}
use Rattle.zf_planes.specs.Lanes.{low_planes, lanes_in, AreBelow, joined, IsGathered, gathered}

-- ---- planes of words

row : ℕ → List ℕ → List Bool
row c words = map (λ u. is_odd (u / 2 ^ c)) words

pub length-low_planes : (c : ℕ) (words : List ℕ) → length (low_planes c words) ≡ c
unfolding low_planes
length-low_planes zero words = refl
length-low_planes (suc c) words = ap suc (length-low_planes c words)

pub low_planes-sizes : (c : ℕ) (words : List ℕ) → AreOfSize (length words) (low_planes c words)
unfolding low_planes
low_planes-sizes zero words = All-nil (λ ds. length ds ≡ length words)
low_planes-sizes (suc c) words =
    All-cons (λ ds. length ds ≡ length words) (map (λ u. is_odd (u / 2 ^ c)) words) (low_planes c words) (length-map words (λ u. is_odd (u / 2 ^ c))) (low_planes-sizes c words)

pub low_planes-none : (words : List ℕ) → low_planes 0 words ≡ []
unfolding low_planes
low_planes-none words = refl

pub low_planes-zeros : (c : ℕ) → low_planes c (0 ∷ 0 ∷ 0 ∷ 0 ∷ []) ≡ replicate c (replicate 4 false)
unfolding low_planes
low_planes-zeros zero = refl
low_planes-zeros (suc c) = cc (div-eq_of_lt (pow_pos c), low_planes-zeros c)

-- they are the planes of the digits
row-plane : (w k : ℕ) (words : List ℕ) → k < w → plane k (map (field w) words) ≡ map (λ u. is_odd (u / 2 ^ k)) words
row-plane w k words below = search (rules, map-map, get_or-field)

get_or-low_planes : (c i : ℕ) (words : List ℕ) → i < c → get_or (low_planes c words) i [] ≡ map (λ u. is_odd (u / 2 ^ (c - 1 - i))) words
unfolding low_planes
get_or-low_planes zero i words below = absurd (omega arith)
get_or-low_planes (suc c) zero words below = let top : suc c - 1 - 0 ≡ c = omega arith in rw top refl
get_or-low_planes (suc c) (suc i) words below = let place : suc c - 1 - suc i ≡ c - 1 - i = omega arith in rw place (get_or-low_planes c i words (omega arith))

pub planes_of-words : (w : ℕ) (words : List ℕ) → planes_of w (map (field w) words) ≡ low_planes w words
planes_of-words w words =
    let long = length-planes_of w (map (field w) words) in
    ext_get_or [] (planes_of w (map (field w) words)) (low_planes w words) (omega (arith, long, length-low_planes w words))
    (λ i below.
    let within : i < w = omega (arith, long) in
    get_or-planes_of w (map (field w) words) i within ∙ row-plane w (w - 1 - i) words (omega arith) ∙ sym (get_or-low_planes w i words within))

-- ---- words with more digits below

bit_high : (i c x y : ℕ) → y < 2 ^ c → is_odd ((x * 2 ^ c + y) / 2 ^ (i + c)) ≡ is_odd (x / 2 ^ i)
bit_high i c x y small =
    let place : i + c ≡ c + i = omega arith in
    ap (λ k. is_odd ((x * 2 ^ c + y) / 2 ^ k)) place ∙ ap is_odd (sym (shr-shr (x * 2 ^ c + y) c i) ∙ ap (λ v. v / 2 ^ i) (shr_high x c y small))

bit_low : (j c x y : ℕ) → j < c → y < 2 ^ c → is_odd ((x * 2 ^ c + y) / 2 ^ j) ≡ is_odd (y / 2 ^ j)
bit_low j c x y below small =
    let z = x * 2 ^ c + y in
    cc (get_or-field c z j false below, field-mod c z, mod_low x c y small, get_or-field c y j false below)

row_low : (j c : ℕ) (xs ys : List ℕ) → j < c → length xs ≡ length ys → AreBelow c ys → map (λ u. is_odd (u / 2 ^ j)) (joined c xs ys) ≡ map (λ u. is_odd (u / 2 ^ j)) ys
unfolding joined AreBelow
row_low j c [] [] below same small = refl
row_low j c (x ∷ xs) (y ∷ ys) below same small =
    ap (λ d. d ∷ map (λ u. is_odd (u / 2 ^ j)) (joined c xs ys)) (bit_low j c x y below small.0) ∙ ap (λ (ds : List Bool). is_odd (y / 2 ^ j) ∷ ds) (row_low j c xs ys below (omega arith) small.1)
row_low j c xs ys below same small = absurd (omega arith)

row_high : (i c : ℕ) (xs ys : List ℕ) → length xs ≡ length ys → AreBelow c ys → map (λ u. is_odd (u / 2 ^ (i + c))) (joined c xs ys) ≡ map (λ u. is_odd (u / 2 ^ i)) xs
unfolding joined AreBelow
row_high i c [] [] same small = refl
row_high i c (x ∷ xs) (y ∷ ys) same small =
    ap (λ d. d ∷ map (λ u. is_odd (u / 2 ^ (i + c))) (joined c xs ys)) (bit_high i c x y small.0) ∙ ap (λ (ds : List Bool). is_odd (x / 2 ^ i) ∷ ds) (row_high i c xs ys (omega arith) small.1)
row_high i c xs ys same small = absurd (omega arith)

joined_low : (k c : ℕ) (xs ys : List ℕ) → k ≤ c → length xs ≡ length ys → AreBelow c ys → low_planes k (joined c xs ys) ≡ low_planes k ys
unfolding low_planes
joined_low zero c xs ys few same small = refl
joined_low (suc k) c xs ys few same small =
    cc (row_low k c xs ys (omega arith) same small, joined_low k c xs ys (omega arith) same small)

pub planes_joined : (i c : ℕ) (xs ys : List ℕ) → length xs ≡ length ys → AreBelow c ys → low_planes (i + c) (joined c xs ys) ≡ low_planes i xs ++ low_planes c ys
unfolding low_planes
planes_joined zero c xs ys same small = let all : zero + c ≡ c = omega arith in rw all (joined_low c c xs ys (omega arith) same small)
planes_joined (suc i) c xs ys same small =
    let next : suc i + c ≡ suc (i + c) = omega arith in
    rw next (cc (row_high i c xs ys same small, planes_joined i c xs ys same small))

pub joined_below : (i c : ℕ) (xs ys : List ℕ) → length xs ≡ length ys → AreBelow i xs → AreBelow c ys → AreBelow (i + c) (joined c xs ys)
unfolding joined AreBelow
joined_below i c (x ∷ xs) (y ∷ ys) same high low = (sum_below i c x y high.0 low.0, joined_below i c xs ys (omega arith) high.1 low.1)
joined_below i c xs ys same high low = tt

pub length-joined : (c : ℕ) (xs ys : List ℕ) → length xs ≡ length ys → length (joined c xs ys) ≡ length xs
unfolding joined
length-joined c (x ∷ xs) [] same = absurd (omega arith)
length-joined c (x ∷ xs) (y ∷ ys) same = ap suc (length-joined c xs ys (omega arith))
length-joined c xs ys same = refl

-- each number of the list is small
pub each_below : (c : ℕ) (words : List ℕ) → AreBelow c words → All (λ u. u < 2 ^ c) words
unfolding AreBelow
each_below c [] small = All-nil (λ u. u < 2 ^ c)
each_below c (u ∷ words) small = All-cons (λ u. u < 2 ^ c) u words small.0 (each_below c words small.1)

-- ---- lanes

pub length-lanes_in : (k v : ℕ) → length (lanes_in k v) ≡ k
unfolding lanes_in
length-lanes_in zero v = refl
length-lanes_in (suc k) v = ap suc (length-lanes_in k (v / 65536))

split : (z s t : ℕ) → z ≡ s + 65536 * t → s < 65536 → (z % 65536 ≡ s) × (z / 65536 ≡ t)
split z s t is small = (omega arith, omega arith)

-- what is above the lanes
above_lanes : ℕ → ℕ → ℕ
above_lanes zero v = v
above_lanes (suc k) v = above_lanes k (v / 65536)

-- one lane, and those above it
lane_and_above : (v e h c : ℕ) → v % 65536 < 2 ^ h → e % 65536 < 2 ^ c → h + c ≤ 16
    → ((v * 2 ^ c + e) % 65536 ≡ v % 65536 * 2 ^ c + e % 65536) × ((v * 2 ^ c + e) / 65536 ≡ v / 65536 * 2 ^ c + e / 65536)
lane_and_above v e h c high low room =
    let p = 2 ^ c in
    let s = v % 65536 * p + e % 65536 in
    let t = v / 65536 * p + e / 65536 in
    let v' : v ≡ v % 65536 + 65536 * (v / 65536) = omega arith in
    let e' : e ≡ e % 65536 + 65536 * (e / 65536) = omega arith in
    let is : v * p + e ≡ s + 65536 * t = parts v e (v % 65536) (v / 65536) (e % 65536) (e / 65536) p v' e' in
    let below = sum_below h c (v % 65536) (e % 65536) high low in
    split (v * p + e) s t is (omega (arith, below, most (h + c) room))
  where
    parts : (v e a b x y p : ℕ) → v ≡ a + 65536 * b → e ≡ x + 65536 * y → v * p + e ≡ a * p + x + 65536 * (b * p + y)
    parts v e a b x y p is is' = rw is (rw is' (omega arith))

    most : (k : ℕ) → k ≤ 16 → 2 ^ k ≤ 65536
    most k few = pow-le-pow_right {n = 2} (lit< tt) few

pub lanes_joined : (k v e h c : ℕ) → AreBelow h (lanes_in k v) → AreBelow c (lanes_in k e) → h + c ≤ 16 → lanes_in k (v * 2 ^ c + e) ≡ joined c (lanes_in k v) (lanes_in k e)
unfolding lanes_in AreBelow joined
lanes_joined zero v e h c high low room = refl
lanes_joined (suc k) v e h c high low room =
    let one = lane_and_above v e h c high.0 low.0 room in
    cc (one.0, one.1, lanes_joined k (v / 65536) (e / 65536) h c high.1 low.1 room)

-- lanes of which each has room are lost by no word
none_above : (k v : ℕ) → v < 65536 ^ k → above_lanes k v ≡ 0
unfolding above_lanes
none_above zero v small = omega arith
none_above (suc k) v small = none_above k (v / 65536) (omega (arith, pow-suc 65536 k))

within_lanes : (k v : ℕ) → above_lanes k v ≡ 0 → v < 65536 ^ k
unfolding above_lanes
within_lanes zero v none = omega arith
within_lanes (suc k) v none = omega (arith, pow-suc 65536 k, within_lanes k (v / 65536) none)

above_joined : (k v e h c : ℕ) → AreBelow h (lanes_in k v) → AreBelow c (lanes_in k e) → h + c ≤ 16 → above_lanes k (v * 2 ^ c + e) ≡ above_lanes k v * 2 ^ c + above_lanes k e
unfolding lanes_in AreBelow above_lanes
above_joined zero v e h c high low room = refl
above_joined (suc k) v e h c high low room =
    ap (above_lanes k) (lane_and_above v e h c high.0 low.0 room).1 ∙ above_joined k (v / 65536) (e / 65536) h c high.1 low.1 room

pub lanes_fit : (v e h c : ℕ) → v < 2 ^ 64 → e < 2 ^ 64 → AreBelow h (lanes_in 4 v) → AreBelow c (lanes_in 4 e) → h + c ≤ 16 → v * 2 ^ c + e < 2 ^ 64
lanes_fit v e h c word more high low room = grind (arith, above_lanes, none_above, above_joined, within_lanes)

-- c planes more behind planes in lanes, as they are computed in a word
pub record IsLonger (h c v e : ℕ) : Type 0 where
  pub small : v * 2 ^ c % 2 ^ 64 + e < 2 ^ 64
  pub below : AreBelow (h + c) (lanes_in 4 (v * 2 ^ c % 2 ^ 64 + e))
  pub planes : low_planes (h + c) (lanes_in 4 (v * 2 ^ c % 2 ^ 64 + e)) ≡ low_planes h (lanes_in 4 v) ++ low_planes c (lanes_in 4 e)

pub lanes_behind : (h c v e : ℕ) → v < 2 ^ 64 → e < 2 ^ 64 → AreBelow h (lanes_in 4 v) → AreBelow c (lanes_in 4 e) → h + c ≤ 16 → IsLonger h c v e
lanes_behind h c v e word more high low room =
    let fits = lanes_fit v e h c word more high low room in
    let whole : v * 2 ^ c % 2 ^ 64 ≡ v * 2 ^ c = mod-eq_of_lt (omega arith) in
    search (rules, lanes_joined, length-lanes_in, joined_below, planes_joined)

-- ---- digits in words and in lanes

pub no_lanes_below : (c k : ℕ) → AreBelow c (lanes_in k 0)
unfolding AreBelow lanes_in
no_lanes_below c zero = tt
no_lanes_below c (suc k) = (pow_pos c, no_lanes_below c k)

-- what is in the lanes is put into the words
pub gathered_down : (words : List ℕ) (done lanes held : ℕ) → IsGathered words done lanes held
    → IsGathered (joined held words (lanes_in 4 lanes)) (done + held) 0 0 × (gathered (joined held words (lanes_in 4 lanes)) (done + held) 0 0 ≡ gathered words done lanes held)
unfolding gathered
gathered_down words done lanes held before = search (rules, length-lanes_in, length-joined, joined_below, no_lanes_below, low_planes-none, append-nil, planes_joined)

-- ---- four words as they are put together

pub word_fits : (x y i c : ℕ) → x < 2 ^ i → y < 2 ^ c → i + c ≤ 64 → (x * 2 ^ c % 2 ^ 64 ≡ x * 2 ^ c) × (x * 2 ^ c % 2 ^ 64 + y < 2 ^ 64)
word_fits x y i c high low room =
    let whole = shl_whole x i c 64 high room in
    (whole, omega (arith, whole, pow-le-pow_right {n = 2} (lit< tt) room, sum_below i c x y high low))

-- no word overflows, and they are the words with the lanes below
pub put_words : (words : List ℕ) (done lanes held : ℕ) → IsGathered words done lanes held → done + held ≤ 64
    → let a = get_or words 0 0 * 2 ^ held % 2 ^ 64 + lanes % 65536 in
    let b = get_or words 1 0 * 2 ^ held % 2 ^ 64 + lanes / 65536 % 65536 in
    let d = get_or words 2 0 * 2 ^ held % 2 ^ 64 + lanes / 65536 / 65536 % 65536 in
    let e = get_or words 3 0 * 2 ^ held % 2 ^ 64 + lanes / 65536 / 65536 / 65536 % 65536 in
    ((a < 2 ^ 64) × (b < 2 ^ 64) × (d < 2 ^ 64) × (e < 2 ^ 64)) × IsGathered (a ∷ b ∷ d ∷ e ∷ []) (done + held) 0 0
    × (gathered (a ∷ b ∷ d ∷ e ∷ []) (done + held) 0 0 ≡ gathered words done lanes held)
unfolding joined lanes_in AreBelow
put_words (a ∷ b ∷ d ∷ e ∷ []) done lanes held before room =
    let down = gathered_down (a ∷ b ∷ d ∷ e ∷ []) done lanes held before in
    let first = word_fits a (lanes % 65536) done held before.prefix.0 before.back.0 room in search (rules, word_fits)
put_words words done lanes held before room = absurd (omega (arith, before.four))

-- lanes as they are put together
pub lanes_put : (words : List ℕ) (done lanes held e c : ℕ) → lanes < 2 ^ 64 → e < 2 ^ 64 → IsGathered words done lanes held → AreBelow c (lanes_in 4 e) → held + c ≤ 16
    → (lanes * 2 ^ c % 2 ^ 64 + e < 2 ^ 64) × IsGathered words done (lanes * 2 ^ c % 2 ^ 64 + e) (held + c)
    × (gathered words done (lanes * 2 ^ c % 2 ^ 64 + e) (held + c) ≡ gathered words done lanes held ++ low_planes c (lanes_in 4 e))
unfolding gathered
lanes_put words done lanes held e c word more before small room =
    let longer = lanes_behind held c lanes e word more before.back small room in (
      longer.small,
      record { four = before.four; prefix = before.prefix; back = longer.below },
      cc (longer.planes, append_assoc (low_planes done words) (low_planes held (lanes_in 4 lanes)) (low_planes c (lanes_in 4 e))),
    )

four_zeros : lanes_in 4 0 ≡ 0 ∷ 0 ∷ 0 ∷ 0 ∷ []
unfolding lanes_in
four_zeros = refl

-- the planes below are zero
pub zeros_below : (words : List ℕ) (done held : ℕ) → IsGathered words done 0 0 → IsGathered words done 0 held × (gathered words done 0 held ≡ gathered words done 0 0 ++ replicate held (replicate 4 false))
unfolding gathered
zeros_below words done held before = search (rules, four_zeros, no_lanes_below, low_planes-zeros, low_planes-none, append-nil)

-- digits in words alone
pub gathered_words : (words : List ℕ) (done lanes held : ℕ) → held ≡ 0 → gathered words done lanes held ≡ low_planes done words
unfolding gathered
gathered_words words done lanes held none = search (rules, none, low_planes-none, append-nil)

pub gathered_none : (words : List ℕ) (done lanes held : ℕ) → done ≡ 0 → held ≡ 0 → gathered words done lanes held ≡ []
gathered_none words done lanes held none empty = gathered_words words done lanes held empty ∙ ap (λ k. low_planes k words) none ∙ low_planes-none words

pub four_below : (c : ℕ) → AreBelow c (0 ∷ 0 ∷ 0 ∷ 0 ∷ [])
unfolding AreBelow
four_below c = (pow_pos c, (pow_pos c, (pow_pos c, (pow_pos c, tt))))
