-- Planes of four digits that are read at once, in lanes.
use Rattle.std.proofs.Common.{rules, ◌≡◌, ℕ, zero, suc, ◌+◌, ◌-◌, ◌*◌, ◌/◌, ◌%◌, ◌^◌, ◌<◌, ◌≤◌, min, max, Bool, true, false, eqb, List, [], ◌∷◌, ◌++◌, length, take, drop, replicate, ⊎_elim, inr, refl, sym, ap, subst, ◌∙◌, arith}
use Rattle.std.{proofs.Math.Nat.{div-eq_of_lt, div-le_self, mod-eq_of_lt}, proofs.Math.Pow.{shr_lt, pow_mono}}
use Rattle.std.{specs.Int.{bit_at}, proofs.lemmas.Nat.{shr-shr}}
use Rattle.std.{proofs.lemmas.Bool.{cases_lt}, proofs.lemmas.List.Elements.{All-head, All-tail}}
use Rattle.std.proofs.lemmas.List.{append-nil, length-drop, length-take, take-take}
use Rattle.zf_spec.{specs.Numbers.{field, is_odd}, specs.Kept.{kept_planes_from}}
use Rattle.zf_spec.specs.Planes.{code_from, reach, reach_of_all, AreOfSize}
use Rattle.zf_spec.{specs.ReadPlanes.{first_bits, planes_in_from}, proofs.Reach.{reach-le}}
use Rattle.zf_spec.proofs.Fields.{length-field, field-add, field-zero}
use Rattle.zf_bits.{proofs.Fields.{field-mod}, specs.Reader.{Reader, rest}}
use Rattle.zf_planes.proofs.Lanes.{length-low_planes, low_planes-sizes, length-lanes_in, lanes_behind}
use Rattle.zf_planes.specs.Lanes.{low_planes, lanes_in, AreBelow, AreInSight, AreAtEnd, AreTurned, IsGathered, gathered}
use Rattle.zf_planes.specs.Decoding.{IsWindow, Takes, plane_ahead, plane_bits, planes_ahead, planes_bits}
use Rattle.zf_planes.specs.{States.{State, to_come, bits_to_come, Comes}, Moves.{MovesOverPlanes, MovesOverSome}}
use Rattle.zf_planes.specs.declared.in_lanes.PlanesInLanes.{PlanesInLanes}
use Rattle.zf_planes.proofs.PlanesAhead.{next_plane, planes_none}
use Rattle.zf_planes.{proofs.Peeking.{window_prefix, window_behind}, specs.Fours.{string_planes}}
use Rattle.zf_planes.{proofs.Zeros.{field_before}, proofs.Strings.{code_from-append, reach_of_all-append}, proofs.Coming.{all_come, known_come}}
use Rattle.zf_planes.{proofs.PlaneAhead.{plane_is, prefix_read}, proofs.Steps.{tail_over}}

-- ---- in lanes

pub sizes : (c v : ℕ) → AreOfSize 4 (low_planes c (lanes_in 4 v))
sizes c v = search (rules, length-lanes_in, low_planes-sizes)

-- planes whose code is in sight
pub in_view : {s t : State} (most bits count len : ℕ) (some : PlanesInLanes) → IsWindow s.left bits count (rest s.reader) → s.above ≤ 4
    → code_from s.above (low_planes some.count (lanes_in 4 some.lanes)) ≡ field len bits → len ≤ count → some.count ≤ most → AreBelow some.count (lanes_in 4 some.lanes)
    → t.above ≡ max s.above (reach_of_all (low_planes some.count (lanes_in 4 some.lanes))) → Takes s.reader t.reader s.left t.left len → MovesOverPlanes most s t some
in_view {s} {t} most bits count len some window within code few fits below reached takes =
    let planes = low_planes some.count (lanes_in 4 some.lanes) in
    let next : code_from s.above planes ≡ take len (rest s.reader) = code ∙ window_prefix (rest s.reader) bits count len window.bits few in
    let come = known_come planes 4 len s t (omega arith) within (sizes some.count some.lanes) next reached takes in
    record { fits = fits; below = below; comes = subst (λ m. Comes 4 m s [] t planes) (length-low_planes some.count (lanes_in 4 some.lanes)) come }

-- by the first eight of the bits
pub in_sight : {s t : State} (most bits count : ℕ) (some : PlanesInLanes) → IsWindow s.left bits count (rest s.reader) → s.above ≤ 4 → AreInSight s.above (bits % 256) some.count some.lanes some.len t.above → some.len ≤ count
    → some.count ≤ most → Takes s.reader t.reader s.left t.left some.len → MovesOverSome most s t some
in_sight most bits count some window within are enough fits takes =
    let eight : some.len + (8 - some.len) ≡ 8 = omega (arith, are.len) in
    record {
      some = are.some;
      few = are.most;
      read = in_view most bits count some.len some window within (are.code ∙ (rw eight at (field-mod some.len (8 - some.len) bits))) enough fits are.below are.above takes;
    }

-- planes are what the bits in the budget make of them
same_ahead : (left m n : ℕ) (s t : List Bool) → take left s ≡ take left t → (planes_ahead left m 4 n s ≡ planes_ahead left m 4 n t) × (planes_bits left m 4 n s ≡ planes_bits left m 4 n t)
unfolding planes_ahead planes_bits
same_ahead left m n s t same = (ap (λ (bs : List Bool). kept_planes_from left n (planes_in_from m 4 n bs)) same, ap (λ (bs : List Bool). min left (length (code_from n (planes_in_from m 4 n bs)))) same)

-- planes at the end of the budget
pub at_end : {s t : State} (most bits count : ℕ) (some : PlanesInLanes) → IsWindow s.left bits count (rest s.reader) → count ≡ s.left → s.above ≤ 4 → AreAtEnd s.above count bits some.count some.lanes some.len t.above → some.count ≤ most
    → Takes s.reader t.reader s.left t.left some.len → MovesOverSome most s t some
at_end {s} {t} most bits count some window all within are fits takes =
    let ahead = rest s.reader in
    let bits_are : field s.left bits ≡ take s.left ahead = rw all at window.bits in
    let same = same_ahead s.left some.count s.above ahead (field s.left bits) (sym (ap (take s.left) bits_are ∙ take-take s.left s.left ahead (omega arith))) in
    let here : to_come 4 some.count s ≡ low_planes some.count (lanes_in 4 some.lanes) = same.0 ∙ (rw all at are.digits) in
    let here_bits : bits_to_come 4 some.count s ≡ some.len = same.1 ∙ (rw all at are.bits) in
    record {
      some = are.some;
      few = are.most;
      read = record { fits = fits; below = are.below; comes = all_come some.count 4 some.len s t _ (omega arith) within (sizes some.count some.lanes) here here_bits are.above takes };
    }

pub planes_bits-le : (r p size n : ℕ) (s : List Bool) → planes_bits r p size n s ≤ r
unfolding planes_bits
planes_bits-le r p size n s = omega arith

-- ---- planes that are their own code

-- the first of them: where the budget ends in it, zeros follow
own_plane : (r v : ℕ) (s : List Bool) → min r 4 ≤ length s → field (min r 4) v ≡ take (min r 4) s → (r < 4 → v < 2 ^ r) → (plane_bits r 4 4 s ≡ min r 4) × (plane_ahead r 4 4 s ≡ field 4 v)
own_plane r v s there is small =
    let m = min r 4 in
    let low : min 4 r ≡ m = omega arith in
    let none : 4 - 4 ≡ 0 = omega arith in
    let parts : m + (4 - m) ≡ 4 = omega arith in
    let over = tail_over (r - m) 0 (drop m s) (inr refl) in
    let zeros : field (4 - m) (v / 2 ^ m) ≡ replicate (4 - m) false = ⊎_elim
    (λ (few : r < 4). let all : m ≡ r = omega arith in let high : v / 2 ^ r ≡ 0 = div-eq_of_lt (small few) in rw (all, high) (field-zero (4 - r)))
    (λ (many : 4 ≤ r). let all : 4 - m ≡ 0 = omega arith in rw all refl)
    (cases_lt r 4) in
    let whole = rw (low, none) at (plane_is r 4 4 s (omega arith)) in
    let prefix = rw low at (prefix_read r 4 s (omega arith)) in
    (omega (arith, whole.0, over.0), cc (whole.1, over.1, append-nil (first_bits 4 (take r s)), prefix, zeros, field-add m (4 - m) v))

-- k of them, by the next bits as far as the budget has them
pub own_planes : (k left v : ℕ) (s : List Bool) → min left (4 * k) ≤ length s → field (min left (4 * k)) v ≡ take (min left (4 * k)) s → v < 2 ^ min left (4 * k)
    → (planes_bits left k 4 4 s ≡ min left (4 * k)) × (planes_ahead left k 4 4 s ≡ string_planes k v)
unfolding string_planes
own_planes zero left v s there is small = let none : min left 0 ≡ 0 = omega arith in rw none (planes_none left 4 4 s)
own_planes (suc k) left v s there is small =
    let all = min left (4 * suc k) in
    let one = min left 4 in
    let more : one ≤ all = omega arith in
    let first = own_plane left v s (omega arith) (window_prefix s v all one is more) (λ few. let same : all ≡ left = omega arith in rw same at small) in
    let long : length (plane_ahead left 4 4 s) ≡ 4 = ap length first.1 ∙ length-field 4 v in
    let next = next_plane left k 4 4 s (omega arith) (omega arith) long in
    let reached : max 4 (reach (plane_ahead left 4 4 s)) ≡ 4 = omega (arith, reach-le (plane_ahead left 4 4 s), long) in
    let behind = drop one s in
    let back = behind_is all one refl refl is small in
    let fewer : all - one ≡ min (left - one) (4 * k) = omega arith in
    let rest = own_planes k (left - one) (v / 16) behind (omega (arith, length-drop one s)) (subst (λ n. field n (v / 16) ≡ take n behind) fewer back.0) (subst (λ n. v / 16 < 2 ^ n) fewer back.1) in
    let Bits = rw (first.0, reached) at next.bits in
    let Digits = rw (first.0, reached) at next.digits in
    (Bits ∙ omega (arith, rest.0), Digits ∙ ap (λ (ds : List Bool). ds ∷ planes_ahead (left - one) k 4 4 behind) first.1 ∙ ap (λ (ps : List (List Bool)). field 4 v ∷ ps) rest.1)
  where
    -- where the first plane has four bits, the others follow; where the budget ends in it, they have none
    behind_is : (all one : ℕ) → all ≡ min left (4 * suc k) → one ≡ min left 4 → field all v ≡ take all s → v < 2 ^ all → (field (all - one) (v / 16) ≡ take (all - one) (drop one s)) × (v / 16 < 2 ^ (all - one))
    behind_is all one is_all is_one bits_are below = ⊎_elim
        (search (rules, pow_mono))
        (λ (many : 4 ≤ left).
        let four : 4 ≡ one = omega arith in
        let parts : all ≡ (all - 4) + 4 = omega arith in (
          subst (λ o. field (all - o) (v / 16) ≡ take (all - o) (drop o s)) four (window_behind s v all 4 bits_are (omega arith)),
          subst (λ o. v / 16 < 2 ^ (all - o)) four (shr_lt (all - 4) 4 (subst (λ n. v < 2 ^ n) parts below)),
        ))
        (cases_lt left 4)

reach_of_fours : (planes : List (List Bool)) → AreOfSize 4 planes → reach_of_all planes ≤ 4
reach_of_fours [] all = omega arith
reach_of_fours (ds ∷ planes) all =
    let here : length ds ≡ 4 = All-head (λ es. length es ≡ 4) ds planes all in
    omega (arith, here, reach-le ds, reach_of_fours planes (All-tail (λ es. length es ≡ 4) ds planes all))

-- they were read
own_read : {s t : State} (most len string : ℕ) (some : PlanesInLanes) → some.count ≤ most → s.above ≡ 4 → t.above ≡ 4 → len ≡ min s.left (4 * some.count) → field len string ≡ take len (rest s.reader) → string < 2 ^ len
    → low_planes some.count (lanes_in 4 some.lanes) ≡ string_planes some.count string → AreBelow some.count (lanes_in 4 some.lanes) → Takes s.reader t.reader s.left t.left len → MovesOverPlanes most s t some
own_read {s} {t} most len string some fits four high is bits_are small lanes below takes =
    let here : (bits_to_come 4 some.count s ≡ min s.left (4 * some.count)) × (to_come 4 some.count s ≡ string_planes some.count string) =
    rw four (own_planes some.count s.left string (rest s.reader) (rw is at takes.enough) (rw is at bits_are) (rw is at small)) in
    let all = sizes some.count some.lanes in
    let reached : t.above ≡ max s.above (reach_of_all (low_planes some.count (lanes_in 4 some.lanes))) = omega (arith, four, high, reach_of_fours _ all) in
    record { fits = fits; below = below; comes = all_come some.count 4 len s t _ (omega arith) (omega (arith, four)) all (here.1 ∙ sym lanes) (here.0 ∙ sym is) reached takes }

-- the same by a word that was read
pub word_read : {s t : State} (most digits : ℕ) (some : PlanesInLanes) → 0 < some.count → some.count ≤ 4 → some.count ≤ most → s.above ≡ 4 → t.above ≡ 4 → some.len ≡ min s.left (4 * some.count)
    → field 64 digits ≡ take some.len (rest s.reader) ++ replicate (64 - some.len) false → digits < 2 ^ 64
    → low_planes some.count (lanes_in 4 some.lanes) ≡ string_planes some.count (digits % 2 ^ (4 * some.count)) → AreBelow some.count (lanes_in 4 some.lanes) → Takes s.reader t.reader s.left t.left some.len → MovesOverSome most s t some
word_read {s} most digits some one few fits four high is bits_are word lanes below takes =
    let len = some.len in
    let prefix = take len (rest s.reader) in
    let long : length prefix ≡ len = omega (arith, length-take len (rest s.reader), takes.enough) in
    let found = rw long at (field_before 64 (64 - len) digits prefix word bits_are) in
    let small = found.1 in
    let all : 2 ^ len ≤ 2 ^ (4 * some.count) = pow_mono {i = len} {j = 4 * some.count} (omega arith) in
    let same : digits % 2 ^ (4 * some.count) ≡ digits = mod-eq_of_lt (omega arith) in
    record { some = one; few = few; read = own_read most len digits some fits four high is found.0 small (lanes ∙ ap (string_planes some.count) same) below takes }

-- four of them, whose bits are in sight
pub sixteen_read : {s t : State} (most bits count : ℕ) (some : PlanesInLanes) → IsWindow s.left bits count (rest s.reader) → some.count ≡ 4 → s.above ≡ 4 → t.above ≡ 4 → 16 ≤ count → 4 ≤ most
    → low_planes 4 (lanes_in 4 some.lanes) ≡ string_planes 4 (bits % 65536) → AreBelow 4 (lanes_in 4 some.lanes) → Takes s.reader t.reader s.left t.left 16 → MovesOverPlanes most s t some
sixteen_read {s} most bits count some window four low high there fits lanes below takes =
    let first : field 16 (bits % 65536) ≡ take 16 (rest s.reader) = field-mod 16 0 bits ∙ window_prefix (rest s.reader) bits count 16 window.bits there in
    own_read most 16 (bits % 65536) some (omega arith) low high (omega (arith, window.within)) first (omega arith) (rw four lanes) (rw four below) takes

-- ---- planes in which the first rank alone has ones

-- some of them, as lanes, whose code begins these bits
pub record AreLone (bits c v : ℕ) : Type 0 where
  pub below : AreBelow c (lanes_in 4 v)
  pub code : code_from 0 (low_planes c (lanes_in 4 v)) ≡ field (1 + 2 * c) bits
  pub reached : max 0 (reach_of_all (low_planes c (lanes_in 4 v))) ≡ 1

first_lone : (bits : ℕ) → bits % 8 ≡ 3 → AreLone bits 1 1
unfolding low_planes lanes_in AreBelow
first_lone bits three = search (rules, field-mod)

lone_plane : (e : ℕ) → e < 2 → (low_planes 1 (lanes_in 4 e) ≡ (is_odd e ∷ false ∷ false ∷ false ∷ []) ∷ []) × AreBelow 1 (lanes_in 4 e)
unfolding low_planes lanes_in AreBelow
lone_plane zero small = (refl, (omega arith, (omega arith, (omega arith, (omega arith, tt)))))
lone_plane (suc zero) small = (refl, (omega arith, (omega arith, (omega arith, (omega arith, tt)))))
lone_plane e small = absurd (omega arith)

-- one more, whose digit and group bit of zero come next
more_lone : (bits c v e : ℕ) → v < 4096 → e ≡ bits / 2 ^ (1 + 2 * c) % 2 → bits / 2 ^ (1 + 2 * c) % 4 < 2 → c + 1 ≤ 16 → AreLone bits c v → AreLone bits (c + 1) (v * 2 % 2 ^ 64 + e)
more_lone bits c v e word is group room before =
    let x = bits / 2 ^ (1 + 2 * c) in
    let small : e < 2 = omega arith in
    let longer = lanes_behind c 1 v e (omega arith) (omega arith) before.below (lone_plane e small).1 room in
    let prefix = low_planes c (lanes_in 4 v) in
    let plane = (lone_plane e small).0 in
    let odd : is_odd e ≡ is_odd x = ap is_odd is ∙ is_odd-low x in
    let parts : 1 + 2 * (c + 1) ≡ 1 + 2 * c + 2 = omega arith in
    let here = one_lone (is_odd x) in
    record {
      below = longer.below;
      code = search (rules, code_from-append, field-add);
      reached =
          ap (λ (ps : List (List Bool)). max 0 (reach_of_all ps)) (longer.planes ∙ ap (λ (ps : List (List Bool)). prefix ++ ps) (plane ∙ ap (λ b. (b ∷ false ∷ false ∷ false ∷ []) ∷ []) odd))
          ∙ omega (arith, reach_of_all-append prefix ((is_odd x ∷ false ∷ false ∷ false ∷ []) ∷ []), before.reached, here.1);
    }
  where
    one_lone : (d : Bool) → (code_from 1 ((d ∷ false ∷ false ∷ false ∷ []) ∷ []) ≡ d ∷ false ∷ []) × (reach_of_all ((d ∷ false ∷ false ∷ false ∷ []) ∷ []) ≤ 1)
    one_lone true = (refl, omega arith)
    one_lone false = (refl, omega arith)

    is_odd-low : (n : ℕ) → is_odd (n % 2) ≡ is_odd n
    is_odd-low n = let low : n % 2 % 2 ≡ n % 2 = omega arith in ap (λ m. eqb m 1) low

-- more of them behind the first, whose group bits are zero
pub more_in_sight : (bits v c : ℕ) → bits % 8 ≡ 3 → AreTurned (bits / 2) v → c ≤ 11 → ((j : ℕ) → j < c → bit_at (bits / 8) (2 * j + 1) ≡ 0) → AreLone bits (c + 1) (v / 2 ^ (11 - c))
more_in_sight bits v zero three turned few zeros =
    let one : v / 2 ^ 11 ≡ 1 = omega (arith, turned.digit 0 (omega arith), turned.small) in rw one (first_lone bits three)
more_in_sight bits v (suc c) three turned few zeros =
    let high = v / 2 ^ (11 - c) in
    let e = bit_at v (11 - suc c) in
    let next = 1 + 2 * (c + 1) in
    let place : 11 - suc c + 1 ≡ 11 - c = omega arith in
    let half : v / 2 ^ (11 - suc c) / 2 ≡ high = shr-shr v (11 - suc c) 1 ∙ ap (λ k. v / 2 ^ k) place in
    let digit : bit_at (bits / 2) (2 * suc c) ≡ bits / 2 ^ next % 2 = ap (λ n. n % 2) (shr-shr bits 1 (2 * suc c) ∙ ap (λ k. bits / 2 ^ k) (omega arith)) in
    let group : bit_at (bits / 8) (2 * c + 1) ≡ bits / 2 ^ next / 2 % 2 = ap (λ n. n % 2) (shr-shr bits 3 (2 * c + 1) ∙ ap (λ k. bits / 2 ^ k) (omega arith) ∙ sym (shr-shr bits next 1)) in
    let small : high < 4096 = omega (arith, turned.small, div-le_self v (2 ^ (11 - c))) in
    let before = more_in_sight bits v c three turned (omega arith) (λ j here. zeros j (omega arith)) in
    let more = more_lone bits (c + 1) high e small (turned.digit (suc c) (omega arith) ∙ digit) (omega (arith, group, zeros c (omega arith))) (omega arith) before in
    let is : high * 2 % 2 ^ 64 + e ≡ v / 2 ^ (11 - suc c) = omega arith in
    let count : c + 1 + 1 ≡ suc c + 1 = omega arith in
    rw (is, count) at more

-- ---- planes that are gathered from the greatest on

-- the planes so far are gathered, and the others are to come
pub record FoursRead (budget prec : ℕ) (start : Reader) (now : State) (words : List ℕ) (done lanes held : ℕ) : Type 0 where
  pub comes : Comes 4 (done + held) (record { left = budget; above = 0; reader = start }) [] now (gathered words done lanes held)
  pub put : IsGathered words done lanes held
  pub within : done + held ≤ prec
  pub few : held ≤ 12

-- planes in lanes behind those in words, where there are none yet
pub gathered-more : (words : List ℕ) (done v c : ℕ) → gathered words done v c ≡ gathered words done 0 0 ++ low_planes c (lanes_in 4 v)
unfolding gathered low_planes
gathered-more words done v c = ap (λ (ps : List (List Bool)). ps ++ low_planes c (lanes_in 4 v)) (sym (append-nil (low_planes done words)))
