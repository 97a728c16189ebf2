-- The positions that a window maps to, and its slices.
use Rattle.std.proofs.Common.{◌≡◌, ℕ, zero, suc, ◌+◌, ◌-◌, ◌*◌, ◌^◌, ◌<◌, true, ◌&&◌, ltb, ltb-true, lt-ltb, List, [], ◌∷◌, ◌++◌, map, length, take, replicate, set, get_or, refl, ap, sym, subst, ◌∙◌, arith, get_or-set_same, rules}
use Rattle.std.{specs.List.{AllByRecursion}, proofs.lemmas.Bool.{and_parts, and_from}}
use Rattle.std.{proofs.lemmas.List.{length-map, length-set}, proofs.Math.Seq.{take-set-lt}}
use Rattle.zf_spec.specs.Grid.{is_inside}
use Rattle.zf_base.{specs.declared.position.Pos.{Pos}, proofs.Sizes.{axes-with_unused}}
use Rattle.zf_base.specs.Positions.{axes, used_axes, with_unused, IsPosition}
use Rattle.zf_base.proofs.Extents.{length-used_axes, same_from_axes}
use Rattle.zf_cached.specs.Windows.{LiesIn, stepped, mapped, sliced, has_place, none_zero, lies_in}
use Rattle.zf_cached.proofs.Windows.{mapped_inside, length-mapped, LiesIn-sliced}
use Rattle.zf_window.{specs.WindowFields.{window_of, largest, IsWindowOf}, proofs.Axes.{stepped-axes}}

-- coordinates in the largest array are small
all_below : (ms ps : List ℕ) → length ps ≡ length ms → is_inside (largest ms) ps ≡ true → AllByRecursion (λ c. c < 2 ^ 48) ps
all_below [] (p ∷ ps) same inside = absurd (omega arith)
all_below (m ∷ ms) (p ∷ ps) same inside =
    let parts = and_parts (ltb p (2 ^ 48)) (is_inside (largest ms) ps) inside in
    (ltb-true p (2 ^ 48) parts.0, all_below ms ps (omega arith) parts.1)
all_below x y same inside = tt

all_with_zeros : (ps : List ℕ) (k : ℕ) → AllByRecursion (λ c. c < 2 ^ 48) ps → AllByRecursion (λ c. c < 2 ^ 48) (ps ++ replicate k 0)
all_with_zeros [] zero all = tt
all_with_zeros [] (suc k) all = (omega arith, all_with_zeros [] k tt)
all_with_zeros (p ∷ ps) k all = (all.0, all_with_zeros ps k all.1)

module _ (d : ℕ) (o s t : Pos) (w : IsWindowOf d o s t) (p : Pos) (at : IsPosition (used_axes d s) p) where
  long : length (used_axes d s) ≡ d
  long = length-used_axes d s w.four_at_most

  unused_position : p ≡ with_unused 0 (used_axes d p)
  unused_position = at.unused ∙ ap (λ k. with_unused 0 (used_axes k p)) long

  position_long : length (used_axes d p) ≡ length (used_axes d s)
  position_long = length-used_axes d p w.four_at_most ∙ sym long

  mapped_long : length (mapped (window_of d o s t) (used_axes d p)) ≡ d
  mapped_long = length-mapped (largest (used_axes d s)) (window_of d o s t) (used_axes d p) w.inside position_long ∙ (length-map (used_axes d s) (λ n. 2 ^ 48) ∙ long)

  four : stepped (axes o) (axes t) (axes p) ≡ mapped (window_of d o s t) (used_axes d p) ++ replicate (4 - d) 0
  four = stepped-axes d o s t w.four_at_most w.unused p unused_position

  -- no coordinate of the array's position is 2^48 or more
  pub mapped_small : AllByRecursion (λ c. c < 2 ^ 48) (stepped (axes o) (axes t) (axes p))
  mapped_small =
      let inside = mapped_inside (largest (used_axes d s)) (window_of d o s t) w.inside (used_axes d p) (subst (λ k. is_inside (used_axes d s) (used_axes k p) ≡ true) long at.inside) position_long in
      subst (AllByRecursion (λ c. c < 2 ^ 48)) (sym four)
      (all_with_zeros (mapped (window_of d o s t) (used_axes d p)) (4 - d) (all_below (used_axes d s) (mapped (window_of d o s t) (used_axes d p)) (mapped_long ∙ sym long) inside))

  -- and it is the one with these coordinates
  pub mapped_is : (q : Pos) → axes q ≡ stepped (axes o) (axes t) (axes p) → q ≡ with_unused 0 (mapped (window_of d o s t) (used_axes (length (used_axes d s)) p))
  mapped_is q is = search (rules, same_from_axes, four, axes-with_unused, mapped_long, long)

-- ---- slices

set-append : (xs ys : List ℕ) (k v : ℕ) → k < length xs → set (xs ++ ys) k v ≡ set xs k v ++ ys
set-append (x ∷ xs) ys (suc k) v lt = ap (λ rest. x ∷ rest) (set-append xs ys k v (omega arith))
set-append _ ys k v lt = search rules

get_or-prefix : (xs ys : List ℕ) (k : ℕ) → k < length xs → get_or (xs ++ ys) k 0 ≡ get_or xs k 0
get_or-prefix (x ∷ xs) ys (suc k) lt = get_or-prefix xs ys k (omega arith)
get_or-prefix _ ys k lt = search rules

get_or-stepped : (os ts ps : List ℕ) (k : ℕ) → k < length os → length ts ≡ length os → length ps ≡ length os → get_or (stepped os ts ps) k 0 ≡ get_or os k 0 + get_or ps k 0 * get_or ts k 0
get_or-stepped (o ∷ os) (t ∷ ts) (p ∷ ps) (suc k) lt a b = get_or-stepped os ts ps k (omega arith) (omega arith) (omega arith)
get_or-stepped x ts ps k lt a b = search rules

below_at : (ps : List ℕ) (k : ℕ) → k < length ps → AllByRecursion (λ c. c < 2 ^ 48) ps → get_or ps k 0 < 2 ^ 48
below_at (p ∷ ps) (suc k) lt all = below_at ps k (omega arith) all.1
below_at _ k lt all = search rules

less_one_at : (ns : List ℕ) (k : ℕ) → k < length ns → get_or ns k 0 ≡ 1 → get_or (map (λ n. n - 1) ns) k 0 ≡ 0
less_one_at (n ∷ ns) (suc k) lt is = less_one_at ns k (omega arith) is
less_one_at _ k lt is = search rules

module _ (d : ℕ) (o s t : Pos) (w : IsWindowOf d o s t) (axis at : ℕ) (on : axis < d) (there : at < get_or (axes s) axis 0) where
  -- along a used axis
  along_used : (n : ℕ) (p : Pos) → p ≡ with_unused n (used_axes d p) → get_or (axes p) axis 0 ≡ get_or (used_axes d p) axis 0
  along_used n p is = search (rules, axes-with_unused, length-used_axes, get_or-prefix)

  used_with : (p q : Pos) (v : ℕ) → axes q ≡ set (axes p) axis v → used_axes d q ≡ set (used_axes d p) axis v
  used_with p q v is = ap (take d) is ∙ take-set-lt d (axes p) axis v on

  unused_with : (n : ℕ) (p q : Pos) (v : ℕ) → p ≡ with_unused n (used_axes d p) → axes q ≡ set (axes p) axis v → q ≡ with_unused n (used_axes d q)
  unused_with n p q v unused is =
      let many = length-used_axes d p w.four_at_most in
      let also = length-used_axes d q w.four_at_most in
      let four : axes p ≡ used_axes d p ++ replicate (4 - d) n = ap axes unused ∙ axes-with_unused n (used_axes d p) (omega (arith, many, w.four_at_most)) ∙ ap (λ k. used_axes d p ++ replicate (4 - k) n) many in
      same_from_axes q (with_unused n (used_axes d q))
      (is ∙ ap (λ xs. set xs axis v) four ∙ set-append (used_axes d p) (replicate (4 - d) n) axis v (omega (arith, many)) ∙ ap (λ xs. xs ++ replicate (4 - d) n) (sym (used_with p q v is))
      ∙ sym (axes-with_unused n (used_axes d q) (omega (arith, also, w.four_at_most)) ∙ ap (λ k. used_axes d q ++ replicate (4 - k) n) also))

  pub place_there : has_place (window_of d o s t) axis at ≡ true
  place_there = search (rules, and_from, lt-ltb, length-used_axes, along_used)

  slice_lies : LiesIn (largest (used_axes d s)) (sliced (window_of d o s t) axis at)
  slice_lies = LiesIn-sliced (largest (used_axes d s)) (window_of d o s t) axis at w.inside place_there

  -- the place of the slice is small
  pub slice_small : get_or (axes o) axis 0 + at * get_or (axes t) axis 0 < 2 ^ 48
  slice_small =
      let part = sliced (window_of d o s t) axis at in
      let many = length-used_axes d s w.four_at_most in
      let os = length-used_axes d o w.four_at_most in
      let ts = length-used_axes d t w.four_at_most in
      let one = and_parts (none_zero part.size) (none_zero part.step && lies_in (largest (used_axes d s)) part) slice_lies.inside in
      let two = and_parts (none_zero part.step) (lies_in (largest (used_axes d s)) part) one.1 in
      let lasts = map (λ n. n - 1) part.size in
      let last_long : length lasts ≡ d = length-map part.size (λ n. n - 1) ∙ length-set (used_axes d s) axis 1 ∙ many in
      let first_long : length part.origin ≡ d = length-set (used_axes d o) axis (get_or (used_axes d o) axis 0 + at * get_or (used_axes d t) axis 0) ∙ os in
      let count : length (mapped part lasts) ≡ length (used_axes d s) = length-mapped (largest (used_axes d s)) part lasts slice_lies (length-map part.size (λ n. n - 1)) ∙ length-map (used_axes d s) (λ n. 2 ^ 48) in
      let all = all_below (used_axes d s) (mapped part lasts) count two.1 in
      let small = below_at (mapped part lasts) axis (omega (arith, count, many)) all in
      let value = get_or-stepped part.origin part.step lasts axis (omega (arith, first_long)) (ts ∙ sym first_long) (last_long ∙ sym first_long) in
      let none = less_one_at part.size axis (omega (arith, length-set (used_axes d s) axis 1, many)) (get_or-set_same (used_axes d s) axis 1 0 (omega (arith, many))) in
      let nothing : get_or lasts axis 0 * get_or part.step axis 0 ≡ 0 = ap (λ k. k * get_or part.step axis 0) none ∙ omega arith in
      let first = get_or-set_same (used_axes d o) axis (get_or (used_axes d o) axis 0 + at * get_or (used_axes d t) axis 0) 0 (omega (arith, os)) in
      let origin = along_used 0 o w.unused.origins in
      let step = ap (λ k. at * k) (along_used 1 t w.unused.steps) in
      omega (arith, small, value, nothing, first, origin, step)

  -- the fields of the slice
  module _ (q r : Pos) (first : axes q ≡ set (axes o) axis (get_or (axes o) axis 0 + at * get_or (axes t) axis 0)) (only : axes r ≡ set (axes s) axis 1) where
    pub slice_is : window_of d q r t ≡ sliced (window_of d o s t) axis at
    slice_is = search (rules, along_used, used_with)

    pub IsWindowOf-slice : IsWindowOf d q r t
    IsWindowOf-slice =
        let same : largest (used_axes d r) ≡ largest (used_axes d s) = all_same (used_axes d r) (used_axes d s) (length-used_axes d r w.four_at_most ∙ sym (length-used_axes d s w.four_at_most)) in
        record {
          one_at_least = w.one_at_least;
          four_at_most = w.four_at_most;
          unused = record { origins = unused_with 0 o q _ w.unused.origins first; sizes = unused_with 1 s r 1 w.unused.sizes only; steps = w.unused.steps };
          inside = subst (λ ns. LiesIn ns (window_of d q r t)) (sym same) (subst (LiesIn (largest (used_axes d s))) (sym slice_is) slice_lies);
        }
      where
        all_same : (ms ns : List ℕ) → length ms ≡ length ns → largest ms ≡ largest ns
        all_same [] [] e = refl
        all_same [] (n ∷ ns) e = absurd (omega arith)
        all_same (m ∷ ms) [] e = absurd (omega arith)
        all_same (m ∷ ms) (n ∷ ns) e = ap (λ rest. 2 ^ 48 ∷ rest) (all_same ms ns (omega arith))
