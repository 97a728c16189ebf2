-- Planes that are read from the greatest on, one after another.
use Rattle.std.proofs.Common.{rules, ◌≡◌, ℕ, ◌+◌, ◌-◌, ◌*◌, ◌<◌, ◌≤◌, ◌⊎◌, Bool, false, List, [], ◌∷◌, ◌++◌, length, map, take, drop, set, replicate, refl, sym, ap, ◌∙◌, arith}
use Rattle.std.{proofs.lemmas.List.Elements.{All-set, All-replicate}}
use Rattle.std.proofs.lemmas.List.{length-map, length-replicate, take-replicate, drop-replicate, append_assoc, take-append-drop, replicate-append-replicate}
use Rattle.zf_spec.{specs.Numbers.{field}, specs.Kept.{kept_planes}}
use Rattle.zf_spec.{specs.HeldPlanes.{digits_held, planes_held, IsClearFrom}, proofs.Fields.{length-field}}
use Rattle.zf_bits.specs.Reader.{Reader, rest}
use Rattle.zf_planes.specs.Decoding.{IsWindow, Takes, plane_ahead, plane_bits, planes_ahead, planes_bits, coded, coded_bits, ReadsTop}
use Rattle.zf_planes.specs.{States.{State, Comes}, Moves.{AreZeroFrom}}
use Rattle.zf_planes.{specs.WordPlanes.{IsReadAs}, proofs.Peeking.{window_prefix, window_long}}
use Rattle.zf_planes.{proofs.Placing.{clear_zeros}, proofs.PlaneAhead.{whole_plane}}
use Rattle.zf_planes.proofs.Coming.{zeros_come, comes_behind, comes_over}
use Rattle.zf_planes.proofs.Unpacking.{planes_held-zeros, top_more, top_behind, set_words}

-- the planes before the i-th are read into words, the others are zero
pub record AreRead (budget prec size : ℕ) (start : Reader) (now : State) (i : ℕ) (planes : List (List ℕ)) : Type 0 where
  pub comes : Comes size i (record { left = budget; above = 0; reader = start }) [] now (take i (planes_held size planes))
  pub zeros : AreZeroFrom size i planes
  pub within : i ≤ prec

-- the planes of zeros at the top
pub zeros_read : {budget after : ℕ} {start now : Reader} (prec size n count k : ℕ) (planes : List (List ℕ)) → 1 ≤ size → size ≤ 64 * count → planes ≡ replicate n (replicate count 0) → prec ≤ n → k ≤ prec
    → Takes start now budget after k → rest start ≡ replicate k false ++ rest now → AreRead budget prec size start (record { left = after; above = 0; reader = now }) k planes
zeros_read {budget} {after} {start} {now} prec size n count k planes some words is enough within taken zeros =
    let none = replicate size false in
    let long : length planes ≡ n = ap length is ∙ length-replicate n (replicate count 0) in
    let held : planes_held size planes ≡ replicate n none = ap (planes_held size) is ∙ planes_held-zeros size n count words in
    let top : take k (planes_held size planes) ≡ replicate k none = search (rules, take-replicate) in
    record {
      comes = rw top (zeros_come size k (record { left = budget; above = 0; reader = start }) (record { left = after; above = 0; reader = now }) some refl refl zeros taken);
      zeros = record {
        back = ap (drop k) held ∙ drop-replicate k n none ∙ ap (λ m. replicate (m - k) none) (sym long);
        clear = rw is (All-replicate (IsClearFrom size) n (replicate count 0) (clear_zeros size count));
      };
      within = within;
    }

-- a plane is put in behind those before it
pub plane_put : {A : Type 0} (words : A → List ℕ) {size i : ℕ} {s t : State} (planes : List A) (plane : A) → i < length planes → IsClearFrom size (words plane) → AreZeroFrom size i (map words planes)
    → Comes size 1 s [] t (digits_held size (words plane) ∷ [])
    → Comes size 1 s (take i (planes_held size (map words planes))) t (take (i + 1) (planes_held size (map words (set planes (length planes - 1 - i) plane))))
    × AreZeroFrom size (i + 1) (map words (set planes (length planes - 1 - i) plane))
plane_put words {size} {i} {s} {t} planes plane below clear zeros one =
    let all = map words planes in
    let within : i < length all = omega (arith, length-map planes words) in
    let put = set_words words planes i plane in
    let more = top_more size all i (words plane) within in (
      rw (put, more) (comes_behind (take i (planes_held size all)) one),
      record {
        back = rw put (top_behind size all i (words plane) within zeros.back);
        clear = rw put (All-set (IsClearFrom size) all (length all - 1 - i) (words plane) clear zeros.clear);
      },
    )

-- where no bit or no plane is left
pub read_over : {budget prec size i : ℕ} {start : Reader} {now : State} (planes : List (List ℕ)) → AreRead budget prec size start now i planes → 1 ≤ size → prec ≤ length planes → (now.left ≡ 0) ⊎ (prec - i ≡ 0)
    → ReadsTop budget prec size (rest start) planes now.left
read_over {budget} {prec} {size} {i} {start} {now} planes read some enough none =
    let over = comes_over prec some (omega arith) read.comes read.within none in search (rules, take-append-drop, replicate-append-replicate, append_assoc)

-- ---- a plane that is known by the bits in sight

pub known_plane : (r size n bits count digits len above : ℕ) (s : List Bool) → n ≤ size → IsWindow r bits count s → IsReadAs n size bits digits len above → len ≤ count
    → (plane_bits r size n s ≡ len) × (plane_ahead r size n s ≡ field size digits)
known_plane r size n bits count digits len above s within window read few =
    let long = length-field size digits in
    rw long at (whole_plane r n len (field size digits) s (omega (arith, long)) (read.code ∙ window_prefix s bits count len window.bits few)
    (omega (arith, few, window_long s bits count window.bits)) (omega (arith, few, window.within)))

-- ---- of a whole code

pub whole_is : (budget prec size : ℕ) (s : List Bool) → (planes_bits budget prec size 0 s ≡ coded_bits budget prec size s)
    × (planes_ahead budget prec size 0 s ≡ kept_planes budget (coded budget prec size s))
unfolding planes_bits planes_ahead
whole_is budget prec size s = (refl, refl)
