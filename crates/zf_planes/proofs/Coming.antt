-- Planes that come one behind another, from state to state.
use Rattle.std.proofs.Common.{◌≡◌, ℕ, zero, suc, ◌⊎◌, ◌++◌, ◌+◌, ◌-◌, ◌<◌, ◌≤◌, max, Bool, false, List, [], ◌∷◌, length, take, drop, replicate, refl, sym, ap, subst, ◌∙◌, arith, rules}
use Rattle.std.{proofs.lemmas.List.Elements.{All-head, All-tail, All-replicate}}
use Rattle.std.proofs.lemmas.List.{append_assoc, append-nil, length-append, length-take, drop-take, drop-drop, take-take, take_at, drop_at, length-replicate}
use Rattle.zf_spec.specs.Planes.{reach, reach_of_all, plane_code, code_from, AreOfSize}
use Rattle.zf_spec.proofs.Reach.{reach_within, reach_none, has_one-zeros}
use Rattle.zf_bits.specs.Reader.{rest}
use Rattle.zf_planes.{specs.Decoding.{Takes, plane_ahead, plane_bits, planes_ahead, IsSpent}, proofs.PlaneAhead.{whole_plane}}
use Rattle.zf_planes.proofs.PlanesAhead.{next_plane, one_bits-le, planes_none, planes_over}
use Rattle.zf_planes.{specs.States.{State, to_come, bits_to_come, Lack, Comes}, proofs.Passing.{long, Takes-rest}, proofs.Zeros.{zero_code}}

-- ---- one behind another

pub comes_none : {size : ℕ} {s t : State} (planes : List (List Bool)) → t.above ≡ s.above → Takes s.reader t.reader s.left t.left 0 → Comes size 0 s planes t planes
comes_none {size} {s} {t} planes above takes = search rules

pub comes_then : {size m n : ℕ} {s t u : State} {a b c : List (List Bool)} → Comes size m s a t b → Comes size n t b u c → Comes size (m + n) s a u c
comes_then {size} {m} {n} {s} {t} {u} {a} {b} {c} one two =
    record {
      planes = λ p q e. one.planes p (n + q) (omega (arith, e)) ∙ two.planes (n + q) q refl;
      bits = λ p q e. omega (arith, one.bits p (n + q) (omega (arith, e)), two.bits (n + q) q refl, one.passed.spent, two.passed.spent);
      passed = record {
        enough = omega (arith, one.passed.enough, two.passed.enough, one.passed.spent, two.passed.spent, one.passed.place, ap length one.passed.all, long s.reader, long t.reader);
        place = omega (arith, one.passed.place, two.passed.place, one.passed.spent, two.passed.spent);
        all = two.passed.all ∙ one.passed.all;
        spent = omega (arith, one.passed.spent, two.passed.spent);
      };
      risen = omega (arith, one.risen, two.risen);
      ranks = λ within. two.ranks (one.ranks within);
    }

-- to a state that is the same
pub comes_there : {size n : ℕ} {s t u : State} {a b : List (List Bool)} → Comes size n s a t b → u.above ≡ t.above → Takes s.reader u.reader s.left u.left (s.left - t.left) → Comes size n s a u b
comes_there {size} {n} {s} {t} {u} one above takes = search rules

-- behind planes before them
pub comes_behind : {size n : ℕ} {s t : State} {after : List (List Bool)} (before : List (List Bool)) → Comes size n s [] t after → Comes size n s before t (before ++ after)
comes_behind {size} {n} {s} {t} {after} before one = search (rules, append_assoc)

-- what lacks behind them lacks in all
pub comes_lack : {size n : ℕ} {s t : State} {a b : List (List Bool)} (p q : ℕ) → Comes size n s a t b → n + q ≡ p → Lack size q t → Lack size p s
comes_lack {size} {n} {s} {t} p q one e lack =
    omega (arith, one.bits p q e, one.passed.spent, one.passed.enough, one.passed.place, ap length one.passed.all, long s.reader, long t.reader, lack)

-- ---- one plane

pub one_comes : {size : ℕ} {s t : State} (ds : List Bool) (len : ℕ) → 1 ≤ size → s.above ≤ size → length ds ≡ size → plane_ahead s.left size s.above (rest s.reader) ≡ ds → plane_bits s.left size s.above (rest s.reader) ≡ len
    → t.above ≡ max s.above (reach ds) → Takes s.reader t.reader s.left t.left len → Comes size 1 s [] t (ds ∷ [])
one_comes {size} {s} {t} ds len some within full is bits reached takes =
    let spent : t.left ≡ s.left - len = omega (arith, takes.spent) in
    let count : s.left - t.left ≡ len = omega (arith, takes.spent) in
    record {
      planes = λ p q e.
          let next = rw (is, bits) at (next_plane s.left q size s.above (rest s.reader) some within (ap length is ∙ full)) in
          let p' : p ≡ suc q = omega (arith, e) in rw (p', Takes-rest takes, spent, reached) next.digits;
      bits = λ p q e.
          let next = rw (is, bits) at (next_plane s.left q size s.above (rest s.reader) some within (ap length is ∙ full)) in
          let p' : p ≡ suc q = omega (arith, e) in rw (count, p', Takes-rest takes, spent, reached) next.bits;
      passed = rw count takes;
      risen = omega (arith, reached);
      ranks = λ low. rw reached (reach_within size s.above ds within full);
    }

-- ---- several planes

-- a plane whose bits are there has its size
first_plane : (size n c : ℕ) (r : ℕ) (s : List Bool) (ds : List Bool) (planes : List (List Bool)) → planes_ahead r (suc c) size n s ≡ ds ∷ planes → plane_ahead r size n s ≡ ds
unfolding planes_ahead plane_ahead
first_plane size n c r s ds planes is = cc

not_none : (r c size n : ℕ) (s : List Bool) → planes_ahead r (suc c) size n s ≡ [] → ⊥
unfolding planes_ahead
not_none r c size n s is = cc

-- the state behind so many bits
abbrev pub past : ℕ → ℕ → State → State
past len above s = record { left = s.left - len; above = above; reader = record { all = s.reader.all; at = s.reader.at + len } }

pub past_rest : (len above : ℕ) (s : State) → rest (past len above s).reader ≡ drop len (rest s.reader)
past_rest len above s = sym (drop-drop len s.reader.at s.reader.all)

-- a plane and those behind it, by so many bits in all
next_come : {size : ℕ} {s t : State} (ds : List Bool) (planes : List (List Bool)) (c k len : ℕ) → 1 ≤ size → s.above ≤ size → length ds ≡ size → plane_ahead s.left size s.above (rest s.reader) ≡ ds → plane_bits s.left size s.above (rest s.reader) ≡ k → k ≤ len
    → Takes s.reader t.reader s.left t.left len → (Takes (past k (max s.above (reach ds)) s).reader t.reader (s.left - k) t.left (len - k) → Comes size c (past k (max s.above (reach ds)) s) [] t planes) → Comes size (suc c) s [] t (ds ∷ planes)
next_come {size} {s} {t} ds planes c k len some within full is bits few takes below =
    let mid = past k (max s.above (reach ds)) s in
    let here : Takes s.reader mid.reader s.left mid.left k = record { enough = omega (arith, takes.enough); place = refl; all = refl; spent = omega (arith, takes.spent) } in
    let there : Takes mid.reader t.reader mid.left t.left (len - k) = record { enough = omega (arith, takes.enough, long s.reader, long mid.reader); place = omega (arith, takes.place); all = takes.all; spent = omega (arith, takes.spent) } in
    let count : 1 + c ≡ suc c = omega arith in
    subst (λ m. Comes size m s [] t (ds ∷ planes)) count (comes_then (one_comes ds k some within full is bits refl here) (comes_behind (ds ∷ []) (below there)))

-- what is to come does come, where its bits are there
pub all_come : (c size len : ℕ) (s t : State) (planes : List (List Bool)) → 1 ≤ size → s.above ≤ size → AreOfSize size planes → to_come size c s ≡ planes → bits_to_come size c s ≡ len
    → t.above ≡ max s.above (reach_of_all planes) → Takes s.reader t.reader s.left t.left len → Comes size c s [] t planes
all_come zero size len s t [] some within sizes is bits reached takes =
    let none : len ≡ 0 = omega (arith, bits, planes_none s.left size s.above (rest s.reader)) in comes_none [] (omega (arith, reached)) (rw none at takes)
all_come zero size len s t (ds ∷ planes) some within sizes is bits reached takes = let none = sym (planes_none s.left size s.above (rest s.reader)).1 ∙ is in cc
all_come (suc c) size len s t [] some within sizes is bits reached takes = absurd (not_none s.left c size s.above (rest s.reader) is)
all_come (suc c) size len s t (ds ∷ planes) some within sizes is bits reached takes =
    let full : length ds ≡ size = All-head (λ es. length es ≡ size) ds planes sizes in
    let first = first_plane size s.above c s.left (rest s.reader) ds planes is in
    let k = plane_bits s.left size s.above (rest s.reader) in
    let next = rw first at (next_plane s.left c size s.above (rest s.reader) some within (ap length first ∙ full)) in
    let place = past_rest k (max s.above (reach ds)) s in
    next_come ds planes c k len some within full first refl (omega (arith, next.bits, bits)) takes
    (all_come c size (len - k) (past k (max s.above (reach ds)) s) t planes some (reach_within size s.above ds within full) (All-tail (λ es. length es ≡ size) ds planes sizes) (rw place (cc (next.digits, is))) (rw place (omega (arith, next.bits, bits))) (omega (arith, reached)))

-- planes whose code begins the bits come
pub known_come : (planes : List (List Bool)) (size len : ℕ) (s t : State) → 1 ≤ size → s.above ≤ size → AreOfSize size planes → code_from s.above planes ≡ take len (rest s.reader)
    → t.above ≡ max s.above (reach_of_all planes) → Takes s.reader t.reader s.left t.left len → Comes size (length planes) s [] t planes
known_come [] size len s t some within sizes code reached takes =
    let none : len ≡ 0 = omega (arith, ap length code, length-take len (rest s.reader), takes.enough) in comes_none [] (omega (arith, reached)) (rw none at takes)
known_come (ds ∷ planes) size len s t some within sizes code reached takes =
    let all = rest s.reader in
    let first = plane_code s.above ds in
    let k = length first in
    let more = code_from (max s.above (reach ds)) planes in
    let full : length ds ≡ size = All-head (λ es. length es ≡ size) ds planes sizes in
    let sum : k + length more ≡ len = sym (length-append first more) ∙ ap length code ∙ omega (arith, length-take len all, takes.enough) in
    let parts : len ≡ k + (len - k) = omega arith in
    let prefix : first ≡ take k all = sym (take_at first more k refl) ∙ ap (take k) code ∙ take-take k len all (omega arith) in
    let behind : more ≡ take (len - k) (drop k all) = sym (drop_at first more k refl) ∙ ap (drop k) code ∙ ap (λ m. drop k (take m all)) parts ∙ drop-take k (len - k) all in
    let one = rw full at (whole_plane s.left s.above k ds all (omega arith) prefix (omega (arith, takes.enough)) (omega (arith, takes.spent))) in
    next_come ds planes (length planes) k len some within full one.1 one.0 (omega arith) takes
    (known_come planes size (len - k) (past k (max s.above (reach ds)) s) t some (reach_within size s.above ds within full) (All-tail (λ es. length es ≡ size) ds planes sizes) (rw (past_rest k (max s.above (reach ds)) s) behind) (omega (arith, reached)))

-- planes of zeros at the top have one bit each
pub zeros_come : (size k : ℕ) (s t : State) → 1 ≤ size → s.above ≡ 0 → t.above ≡ 0 → rest s.reader ≡ replicate k false ++ rest t.reader → Takes s.reader t.reader s.left t.left k
    → Comes size k s [] t (replicate k (replicate size false))
zeros_come size k s t some none low zeros takes =
    let planes = replicate k (replicate size false) in
    let sizes : AreOfSize size planes = All-replicate (λ ds. length ds ≡ size) k (replicate size false) (length-replicate size false) in
    let code : code_from s.above planes ≡ take k (rest s.reader) =
    rw none (ap (code_from 0) (sym (append-nil planes)) ∙ zero_code k size [] some ∙ append-nil (replicate k false) ∙ sym (ap (take k) zeros ∙ take_at (replicate k false) (rest t.reader) k (length-replicate k false))) in
    let reached : t.above ≡ max s.above (reach_of_all planes) = omega (arith, none, low, reach_of_zeros k) in
    subst (λ m. Comes size m s [] t planes) (length-replicate k (replicate size false)) (known_come planes size k s t some (omega (arith, none)) sizes code reached takes)
  where
    reach_of_zeros : (j : ℕ) → reach_of_all (replicate j (replicate size false)) ≡ 0
    reach_of_zeros zero = refl
    reach_of_zeros (suc j) = omega (arith, reach_of_zeros j, reach_none (replicate size false) (has_one-zeros size))

-- where no bit or no plane is left, zeros follow
pub comes_over : {size i : ℕ} {s t : State} {planes : List (List Bool)} (p : ℕ) → 1 ≤ size → s.above ≤ size → Comes size i s [] t planes → i ≤ p → (t.left ≡ 0) ⊎ (p - i ≡ 0)
    → IsSpent s.left t.left (bits_to_come size p s) (rest s.reader) × (to_come size p s ≡ planes ++ replicate (p - i) (replicate size false))
comes_over {size} {i} {s} {t} {planes} p some within comes below none =
    let over = planes_over t.left (p - i) size t.above (rest t.reader) some (comes.ranks within) none in search rules

-- where the bits of one plane are not there, those of more are not
pub lack_of_one : (size p : ℕ) (s : State) → 0 < p → Lack size 1 s → Lack size p s
lack_of_one size p s some lack = omega (arith, lack, one_bits-le s.left p size s.above (rest s.reader) some)
