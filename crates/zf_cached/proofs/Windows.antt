-- Windows of an array: their positions lie in it.
use Rattle.std.proofs.Common.{◌≡◌, refl, ap, ◌∙◌, ℕ, zero, suc, ◌+◌, ◌-◌, ◌*◌, ◌<◌, ◌≤◌, true, ◌&&◌, ltb, ltb-true, lt-ltb, leb, leb-true, le-leb, List, [], ◌∷◌, map, length, get_or, set, arith, rules}
use Rattle.std.{proofs.Math.Nat.{mul-le-mul_right, eq_of_mul-eq-mul_right}, specs.List.{AllByRecursion}}
use Rattle.std.{proofs.lemmas.Bool.{and_from, and_parts}, proofs.lemmas.List.{length-map, length-set}}
use Rattle.zf_spec.specs.Grid.{is_inside}
use Rattle.zf_cached.specs.Windows.{Window, LiesIn, stepped, mapped, whole, sliced, has_place, none_zero, lies_in}

-- each position lies in the array where the last one does
stepped_inside : (ns os sizes ts ps : List ℕ) → is_inside ns (stepped os ts (map (λ n. n - 1) sizes)) ≡ true → is_inside sizes ps ≡ true → length ps ≡ length sizes
    → is_inside ns (stepped os ts ps) ≡ true
stepped_inside [] os sizes ts ps h p l = refl
stepped_inside (n ∷ ns) (o ∷ os) [] (t ∷ ts) ps h p l = absurd (cc)
stepped_inside (n ∷ ns) (o ∷ os) (m ∷ sizes) (t ∷ ts) [] h p l = absurd (cc)
stepped_inside (n ∷ ns) (o ∷ os) (m ∷ sizes) (t ∷ ts) (q ∷ ps) h p l =
    let parts = and_parts (ltb (o + (m - 1) * t) n) (is_inside ns (stepped os ts (map (λ n. n - 1) sizes))) h in
    let first = ltb-true (o + (m - 1) * t) n parts.0 in
    let both = and_parts (ltb q m) (is_inside sizes ps) p in
    let below = ltb-true q m both.0 in
    let short : q ≤ m - 1 = omega arith in
    let reach : q * t ≤ (m - 1) * t = mul-le-mul_right t short in
    let fits : o + q * t < n = omega arith in
    and_from (ltb (o + q * t) n) (is_inside ns (stepped os ts ps)) (lt-ltb (o + q * t) n fits) (stepped_inside ns os sizes ts ps parts.1 both.1 (omega arith))
stepped_inside x y sizes ts ps h p l = h

module _ (ns : List ℕ) (w : Window) (h : LiesIn ns w) where
  -- a position of the window is one of the array
  pub mapped_inside : (ps : List ℕ) → is_inside w.size ps ≡ true → length ps ≡ length w.size → is_inside ns (mapped w ps) ≡ true
  mapped_inside ps inside same =
      let lies = (and_parts (none_zero w.step) (lies_in ns w) (and_parts (none_zero w.size) _ h.inside).1).1 in
      stepped_inside ns w.origin w.size w.step ps lies inside same

pub length-stepped : (os ts ps : List ℕ) (n : ℕ) → length os ≡ n → length ts ≡ n → length ps ≡ n → length (stepped os ts ps) ≡ n
length-stepped [] ts ps n o t p = o
length-stepped (o ∷ os) (t ∷ ts) (p ∷ ps) (suc n) a b c = ap suc (length-stepped os ts ps n (omega arith) (omega arith) (omega arith))
length-stepped x y ps n a b c = absurd (omega arith)

pub length-mapped : (ns : List ℕ) (w : Window) (ps : List ℕ) → LiesIn ns w → length ps ≡ length w.size → length (mapped w ps) ≡ length ns
length-mapped ns w ps h same = length-stepped w.origin w.step ps (length ns) h.origins h.steps (same ∙ h.sizes)

-- two positions of a window are two of the array
stepped_once : (os ts ps qs : List ℕ) → none_zero ts ≡ true → length os ≡ length ps → length ts ≡ length ps → length qs ≡ length ps → stepped os ts ps ≡ stepped os ts qs → ps ≡ qs
stepped_once os ts [] [] h a b c e = refl
stepped_once (o ∷ os) (t ∷ ts) (p ∷ ps) (q ∷ qs) h a b c e =
    let parts = and_parts (leb 1 t) (none_zero ts) h in
    let first : o + p * t ≡ o + q * t = cc in
    let same : p ≡ q = eq_of_mul-eq-mul_right t (leb-true 1 t parts.0) p q (omega arith) in
    let rest : stepped os ts ps ≡ stepped os ts qs = cc in
    cc (stepped_once os ts ps qs parts.1 (omega arith) (omega arith) (omega arith) rest)
stepped_once os ts x y h a b c e = absurd (omega arith)

pub mapped_once : (ns : List ℕ) (w : Window) (ps qs : List ℕ) → LiesIn ns w → length ps ≡ length w.size → length qs ≡ length w.size → mapped w ps ≡ mapped w qs → ps ≡ qs
mapped_once ns w ps qs h p q e =
    let steps = (and_parts (none_zero w.step) (lies_in ns w) (and_parts (none_zero w.size) (none_zero w.step && lies_in ns w) h.inside).1).0 in
    stepped_once w.origin w.step ps qs steps (omega (arith, h.origins, h.sizes, p)) (omega (arith, h.steps, h.sizes, p)) (omega (arith, p, q)) e

-- ---- the whole array

stepped-whole : (ns ps : List ℕ) → length ps ≡ length ns → stepped (map (λ n. 0) ns) (map (λ n. 1) ns) ps ≡ ps
stepped-whole [] [] h = refl
stepped-whole (n ∷ ns) (p ∷ ps) h = let e : 0 + p * 1 ≡ p = omega arith in ap (λ q. q ∷ stepped (map (λ n. 0) ns) (map (λ n. 1) ns) ps) e ∙ ap (λ qs. p ∷ qs) (stepped-whole ns ps (omega arith))
stepped-whole x y h = absurd (omega arith)

-- each position of the whole array is itself
pub mapped-whole : (ns ps : List ℕ) → length ps ≡ length ns → mapped (whole ns) ps ≡ ps
mapped-whole ns ps h = stepped-whole ns ps h

last_inside : (ns : List ℕ) → AllByRecursion (λ n. 1 ≤ n) ns → is_inside ns (map (λ n. n - 1) ns) ≡ true
last_inside [] h = refl
last_inside (n ∷ ns) h = let some = h.0 in and_from (ltb (n - 1) n) (is_inside ns (map (λ n. n - 1) ns)) (lt-ltb (n - 1) n (omega arith)) (last_inside ns h.1)

none_zero-all : (ns : List ℕ) → AllByRecursion (λ n. 1 ≤ n) ns → none_zero ns ≡ true
none_zero-all [] h = refl
none_zero-all (n ∷ ns) h = and_from (leb 1 n) (none_zero ns) (le-leb 1 n h.0) (none_zero-all ns h.1)

none_zero-ones : (ns : List ℕ) → none_zero (map (λ n. 1) ns) ≡ true
none_zero-ones [] = refl
none_zero-ones (n ∷ ns) = none_zero-ones ns

pub LiesIn-whole : (ns : List ℕ) → AllByRecursion (λ n. 1 ≤ n) ns → LiesIn ns (whole ns)
LiesIn-whole ns h =
    search (rules, length-map, and_from, none_zero-all, none_zero-ones, stepped-whole, last_inside)

-- ---- slices

slice_inside : (ns os sizes ts : List ℕ) (axis at : ℕ) → is_inside ns (stepped os ts (map (λ n. n - 1) sizes)) ≡ true → axis < length sizes → at < get_or sizes axis 0 → length os ≡ length sizes → length ts ≡ length sizes
    → is_inside ns (stepped (set os axis (get_or os axis 0 + at * get_or ts axis 0)) ts (map (λ n. n - 1) (set sizes axis 1))) ≡ true
slice_inside [] (o ∷ os) (m ∷ sizes) (t ∷ ts) axis at h a b l k = refl
slice_inside (n ∷ ns) (o ∷ os) (m ∷ sizes) (t ∷ ts) zero at h a b l k =
    search (rules, and_parts, ltb-true, mul-le-mul_right, and_from, lt-ltb)
slice_inside (n ∷ ns) (o ∷ os) (m ∷ sizes) (t ∷ ts) (suc axis) at h a b l k =
    let parts = and_parts (ltb (o + (m - 1) * t) n) (is_inside ns (stepped os ts (map (λ n. n - 1) sizes))) h in
    and_from (ltb (o + (m - 1) * t) n) (is_inside ns (stepped (set os axis (get_or os axis 0 + at * get_or ts axis 0)) ts (map (λ n. n - 1) (set sizes axis 1))))
    parts.0 (slice_inside ns os sizes ts axis at parts.1 (omega arith) b (omega arith) (omega arith))
slice_inside ns os x ts axis at h a b l k = absurd (omega arith)

none_zero-set : (ns : List ℕ) (axis : ℕ) → none_zero ns ≡ true → none_zero (set ns axis 1) ≡ true
none_zero-set [] axis h = refl
none_zero-set (n ∷ ns) zero h = (and_parts (leb 1 n) (none_zero ns) h).1
none_zero-set (n ∷ ns) (suc axis) h = let parts = and_parts (leb 1 n) (none_zero ns) h in and_from (leb 1 n) (none_zero (set ns axis 1)) parts.0 (none_zero-set ns axis parts.1)

-- a slice of a window lies in the array
pub LiesIn-sliced : (ns : List ℕ) (w : Window) (axis at : ℕ) → LiesIn ns w → has_place w axis at ≡ true → LiesIn ns (sliced w axis at)
LiesIn-sliced ns w axis at h place =
    search (rules, and_parts, length-set, and_from, none_zero-set, slice_inside, ltb-true)
