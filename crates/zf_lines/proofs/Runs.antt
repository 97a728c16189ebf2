-- Places of which those in front hold values, and a run of them written over.
use Rattle.std.proofs.Common.{◌≡◌, ℕ, zero, suc, ◌+◌, ◌-◌, ◌<◌, ◌≤◌, List, [], ◌∷◌, ◌++◌, map, length, take, drop, replicate, get_or, Option, Some, None, slice_set, refl, sym, ap, ◌∙◌, arith, length-append, length-drop, length-set, rules}
use Rattle.std.proofs.lemmas.List.{take-map, drop-map, map-append, length-map, length-replicate, set_split, take-append-le, drop-append-le}
use Rattle.zf_lines.{specs.Places.{somes, values, IsHeld, IsFront, IsFilledTo}, specs.Lends.{spliced}, proofs.Blocks.{splice, splice-prefix}}

-- a run of the values in front
part_in_front : {Y : Type 0} (us vs : List Y) (from n : ℕ) → from + n ≤ length us → take n (drop from (us ++ vs)) ≡ take n (drop from us)
part_in_front us vs from n le =
    ap (take n) (drop-append-le from us vs (omega arith)) ∙ take-append-le n (drop from us) vs (omega (arith, length-drop from us))

module _ {X : Type 0} where
  -- the values ys in front of k empty places
  abbrev pub front : List X → ℕ → List (Option X)
  front ys k = let none : Option X = None in map Some ys ++ replicate k none

  pub somes-front : (ys : List X) (k : ℕ) → somes (front ys k) ≡ ys
  somes-front [] zero = refl
  somes-front [] (suc k) = somes-front [] k
  somes-front (y ∷ ys) k = ap (λ l. y ∷ l) (somes-front ys k)

  pub somes-map : (ys : List X) → somes (map Some ys) ≡ ys
  somes-map [] = refl
  somes-map (y ∷ ys) = ap (λ l. y ∷ l) (somes-map ys)

  pub values-front : (z : X) (ys : List X) (k : ℕ) → values z (front ys k) ≡ ys ++ replicate k z
  values-front z [] zero = refl
  values-front z [] (suc k) = ap (λ l. z ∷ l) (values-front z [] k)
  values-front z (y ∷ ys) k = ap (λ l. y ∷ l) (values-front z ys k)

  pub length-values : (z : X) (cs : List (Option X)) → length (values z cs) ≡ length cs
  length-values z [] = refl
  length-values z (None ∷ cs) = ap suc (length-values z cs)
  length-values z (Some x ∷ cs) = ap suc (length-values z cs)

  pub length-front : (ys : List X) (k : ℕ) → length (front ys k) ≡ length ys + k
  length-front ys k = let none : Option X = None in omega (arith, length-append (map Some ys) (replicate k none), length-map ys Some, length-replicate k none)

  pub is_front : (cs : List (Option X)) (ys : List X) (k w : ℕ) → cs ≡ front ys k → length ys ≡ w → IsFront cs w
  is_front cs ys k w e long =
      let same : somes cs ≡ ys = ap somes e ∙ somes-front ys k in
      let left : length cs - w ≡ k = omega (arith, ap length e, length-front ys k) in
      record { held = ap length same ∙ long; front = e ∙ (λ i. front (sym same i) (sym left i)) }

  -- places in front hold a run of values where it stands in all values
  pub run_of : (z : X) (ys : List X) (k from n : ℕ) → from + n ≤ length ys → take n (drop from (front ys k)) ≡ map Some (take n (drop from (values z (front ys k))))
  run_of z ys k from n le =
      let none : Option X = None in
      part_in_front (map Some ys) (replicate k none) from n (omega (arith, length-map ys Some))
      ∙ ap (take n) (drop-map Some from ys) ∙ take-map Some n (drop from ys)
      ∙ ap (map Some) (sym (ap (λ l. take n (drop from l)) (values-front z ys k) ∙ part_in_front ys (replicate k z) from n le))

  pub same_values : (xs ys : List X) → map Some xs ≡ map Some ys → xs ≡ ys
  same_values xs ys e = sym (somes-map xs) ∙ ap somes e ∙ somes-map ys

  -- a run written over in the places is that run written over in the values
  spliced_map : (xs ws : List X) (from n : ℕ) → spliced (map Some xs) from n ws ≡ map Some (splice from n ws xs)
  spliced_map xs ws from n = search (rules, take-map, drop-map, map-append)

  pub spliced_front : (ys ws : List X) (k from n : ℕ) → from + n ≤ length ys → spliced (front ys k) from n ws ≡ front (splice from n ws ys) k
  spliced_front ys ws k from n le =
      let none : Option X = None in
      splice-prefix from n (map Some ws) (map Some ys) (replicate k none) (omega (arith, length-map ys Some)) ∙ ap (λ l. l ++ replicate k none) (spliced_map ys ws from n)

module _ {X : Type 0} where
  -- each place in front holds a value
  pub held_at : (ys : List X) (k i : ℕ) → i < length ys → IsHeld (front ys k) i
  held_at [] k i lt = absurd (omega arith)
  held_at (y ∷ ys) k zero lt = (y, refl)
  held_at (y ∷ ys) k (suc i) lt = held_at ys k i (omega arith)

  pub held_value : (z : X) (cs : List (Option X)) (i : ℕ) (x : X) → get_or cs i None ≡ Some x → get_or (values z cs) i x ≡ x
  held_value z [] i x e = cc
  held_value z (None ∷ cs) zero x e = cc
  held_value z (Some y ∷ cs) zero x e = cc
  held_value z (None ∷ cs) (suc i) x e = held_value z cs i x e
  held_value z (Some y ∷ cs) (suc i) x e = held_value z cs i x e

  -- a value written over is a run of one
  pub set_spliced : (cs : List (Option X)) (i : ℕ) (v : X) → i < length cs → slice_set cs i (Some v) ≡ spliced cs i 1 (v ∷ [])
  set_spliced cs i v lt = let on : suc i ≡ i + 1 = omega arith in set_split cs i (Some v) lt ∙ ap (λ k. take i cs ++ Some v ∷ drop k cs) on

  next_filled : (ys : List X) (k : ℕ) (z : X) → slice_set (front ys (suc k)) (length ys) (Some z) ≡ front (ys ++ z ∷ []) k
  next_filled [] k z = refl
  next_filled (y ∷ ys) k z = ap (λ l. Some y ∷ l) (next_filled ys k z)

  -- the first place that is empty is empty
  next_empty : (ys : List X) (k : ℕ) → get_or (front ys k) (length ys) None ≡ None
  next_empty [] zero = refl
  next_empty [] (suc k) = refl
  next_empty (y ∷ ys) k = next_empty ys k

  -- a zero in an empty place changes no value
  set_same : (z : X) (cs : List (Option X)) (i : ℕ) → i < length cs → get_or cs i None ≡ None → values z (slice_set cs i (Some z)) ≡ values z cs
  set_same z [] i lt e = refl
  set_same z (None ∷ cs) zero lt e = refl
  set_same z (Some y ∷ cs) zero lt e = cc
  set_same z (None ∷ cs) (suc i) lt e = ap (λ l. z ∷ l) (set_same z cs i (omega arith) e)
  set_same z (Some y ∷ cs) (suc i) lt e = ap (λ l. y ∷ l) (set_same z cs i (omega arith) e)

  pub empty_next : (cs : List (Option X)) (w : ℕ) → IsFront cs w → get_or cs w None ≡ None
  empty_next cs w f = ap (λ l. get_or l w None) f.front ∙ ap (λ j. get_or (front (somes cs) (length cs - w)) j None) (sym f.held) ∙ next_empty (somes cs) (length cs - w)

  pub fills_more : (z : X) (cs ds : List (Option X)) (w v : ℕ) → IsFilledTo z cs ds w → w < length cs → v ≡ suc w → IsFilledTo z cs (slice_set ds w (Some z)) v
  fills_more z cs ds w v f lt on =
      let left : length ds - w ≡ suc (length ds - v) = omega (arith, f.size) in
      let ys = somes ds in
      let now : slice_set ds w (Some z) ≡ front (ys ++ z ∷ []) (length ds - v) =
      (λ i. slice_set ((f.front.front ∙ ap (front ys) left) i) (sym f.front.held i) (Some z)) ∙ next_filled ys (length ds - v) z in
      record {
        front = is_front _ (ys ++ z ∷ []) (length ds - v) v now (omega (arith, length-append ys (z ∷ []), f.front.held));
        same = set_same z ds w (omega (arith, f.size)) (empty_next ds w f.front) ∙ f.same;
        size = length-set ds w (Some z) ∙ f.size;
      }

  pub fills_none : (z : X) (cs : List (Option X)) (w : ℕ) → IsFront cs w → IsFilledTo z cs cs w
  fills_none z cs w f = record { front = f; same = refl; size = refl }

  pub none_filled : (n : ℕ) (z : X) → values z (front [] n) ≡ replicate n z
  none_filled n z = values-front z [] n
