-- Windows along four axes, and along the used ones.
use Rattle.std.proofs.Common.{◌≡◌, ℕ, zero, suc, ◌+◌, ◌-◌, ◌*◌, ◌≤◌, true, ◌&&◌, ltb, ltb-true, leb, List, [], ◌∷◌, ◌++◌, map, length, drop, replicate, refl, ap, sym, subst, ◌∙◌, arith, rules}
use Rattle.std.proofs.lemmas.Bool.{and_parts, and_from}
use Rattle.std.proofs.lemmas.List.{map-append, length-map, take-append-drop, length-drop}
use Rattle.zf_spec.specs.Grid.{is_inside}
use Rattle.zf_base.{specs.declared.position.Pos.{Pos}, proofs.Sizes.{axes-with_unused}}
use Rattle.zf_base.specs.Positions.{axes, used_axes, with_unused, IsPosition}
use Rattle.zf_base.proofs.Extents.{length-used_axes, same_from_axes}
use Rattle.zf_cached.specs.Windows.{stepped, mapped, none_zero, lies_in}
use Rattle.zf_window.specs.WindowFields.{window_of, AreUnused}

-- ---- lists of one number for each axis, with more axes behind

stepped-append : (os ts ps xs ys zs : List ℕ) → length ts ≡ length os → length ps ≡ length os → stepped (os ++ xs) (ts ++ ys) (ps ++ zs) ≡ stepped os ts ps ++ stepped xs ys zs
stepped-append [] [] [] xs ys zs a b = refl
stepped-append (o ∷ os) (t ∷ ts) (p ∷ ps) xs ys zs a b = ap (λ rest. (o + p * t) ∷ rest) (stepped-append os ts ps xs ys zs (omega arith) (omega arith))
stepped-append x y ps xs ys zs a b = absurd (omega arith)

stepped-unused : (k : ℕ) → stepped (replicate k 0) (replicate k 1) (replicate k 0) ≡ replicate k 0
stepped-unused zero = refl
stepped-unused (suc k) = ap (λ rest. 0 ∷ rest) (stepped-unused k)

less_one : (k : ℕ) → map (λ n. n - 1) (replicate k 1) ≡ replicate k 0
less_one zero = refl
less_one (suc k) = ap (λ rest. 0 ∷ rest) (less_one k)

is_inside-ones : (k : ℕ) → is_inside (replicate k 1) (replicate k 0) ≡ true
is_inside-ones zero = refl
is_inside-ones (suc k) = is_inside-ones k

is_inside-append : (ns ps : List ℕ) (k : ℕ) → length ps ≡ length ns → is_inside (ns ++ replicate k 1) (ps ++ replicate k 0) ≡ is_inside ns ps
is_inside-append [] [] k long = is_inside-ones k
is_inside-append (n ∷ ns) (p ∷ ps) k long = ap (λ b. ltb p n && b) (is_inside-append ns ps k (omega arith))
is_inside-append x y k long = absurd (omega arith)

-- inside ones are zeros alone
zeros_inside : (k : ℕ) (ps : List ℕ) → length ps ≡ k → is_inside (replicate k 1) ps ≡ true → ps ≡ replicate k 0
zeros_inside zero [] long inside = refl
zeros_inside (suc k) (p ∷ ps) long inside =
    let parts = and_parts (ltb p 1) (is_inside (replicate k 1) ps) inside in
    let none : p ≡ 0 = omega (arith, ltb-true p 1 parts.0) in
    let rest = zeros_inside k ps (omega arith) parts.1 in
    cc
zeros_inside x y long inside = absurd (omega arith)

inside_parts : (ns ps qs : List ℕ) (k : ℕ) → length ps ≡ length ns → length qs ≡ k → is_inside (ns ++ replicate k 1) (ps ++ qs) ≡ true → (is_inside ns ps ≡ true) × (qs ≡ replicate k 0)
inside_parts [] [] qs k long count inside = (refl, zeros_inside k qs count inside)
inside_parts (n ∷ ns) (p ∷ ps) qs k long count inside =
    let parts = and_parts (ltb p n) (is_inside (ns ++ replicate k 1) (ps ++ qs)) inside in
    let rest = inside_parts ns ps qs k (omega arith) count parts.1 in
    (and_from (ltb p n) (is_inside ns ps) parts.0 rest.0, rest.1)
inside_parts x y qs k long count inside = absurd (omega arith)

none_zero-ones : (k : ℕ) → none_zero (replicate k 1) ≡ true
none_zero-ones zero = refl
none_zero-ones (suc k) = none_zero-ones k

none_zero-append : (ns : List ℕ) (k : ℕ) → none_zero (ns ++ replicate k 1) ≡ none_zero ns
none_zero-append [] k = none_zero-ones k
none_zero-append (n ∷ ns) k = ap (λ b. leb 1 n && b) (none_zero-append ns k)

-- ---- the used axes, and zeros and ones behind

module _ (d : ℕ) (origin size step : Pos) (dims : d ≤ 4) (unused : AreUnused d origin size step) where
  used : (p : Pos) → length (used_axes d p) ≡ d
  used p = length-used_axes d p dims

  four : (n : ℕ) (p : Pos) → p ≡ with_unused n (used_axes d p) → axes p ≡ used_axes d p ++ replicate (4 - d) n
  four n p is = ap axes is ∙ axes-with_unused n (used_axes d p) (omega (arith, used p)) ∙ ap (λ k. used_axes d p ++ replicate (4 - k) n) (used p)

  -- no size is zero along the used axes where none is along all
  pub none_zero-axes : none_zero (axes size) ≡ none_zero (used_axes d size)
  none_zero-axes = ap none_zero (four 1 size unused.sizes) ∙ none_zero-append (used_axes d size) (4 - d)

  pub none_zero-steps : none_zero (axes step) ≡ none_zero (used_axes d step)
  none_zero-steps = ap none_zero (four 1 step unused.steps) ∙ none_zero-append (used_axes d step) (4 - d)

  -- a position of a window along four axes
  pub stepped-axes : (p : Pos) → p ≡ with_unused 0 (used_axes d p) → stepped (axes origin) (axes step) (axes p) ≡ mapped (window_of d origin size step) (used_axes d p) ++ replicate (4 - d) 0
  stepped-axes p is =
      ap (λ os. stepped os (axes step) (axes p)) (four 0 origin unused.origins)
      ∙ (ap (λ ts. stepped (used_axes d origin ++ replicate (4 - d) 0) ts (axes p)) (four 1 step unused.steps)
      ∙ (ap (λ ps. stepped (used_axes d origin ++ replicate (4 - d) 0) (used_axes d step ++ replicate (4 - d) 1) ps) (four 0 p is)
      ∙ (stepped-append (used_axes d origin) (used_axes d step) (used_axes d p) _ _ _ (used step ∙ sym (used origin)) (used p ∙ sym (used origin))
      ∙ ap (λ rest. stepped (used_axes d origin) (used_axes d step) (used_axes d p) ++ rest) (stepped-unused (4 - d)))))

  -- the last one
  last_axes : stepped (axes origin) (axes step) (map (λ n. n - 1) (axes size)) ≡ mapped (window_of d origin size step) (map (λ n. n - 1) (used_axes d size)) ++ replicate (4 - d) 0
  last_axes =
      let ones = map-append (λ n. n - 1) (used_axes d size) (replicate (4 - d) 1) ∙ ap (λ rest. map (λ n. n - 1) (used_axes d size) ++ rest) (less_one (4 - d)) in
      ap (λ os. stepped os (axes step) (map (λ n. n - 1) (axes size))) (four 0 origin unused.origins)
      ∙ (ap (λ ts. stepped (used_axes d origin ++ replicate (4 - d) 0) ts (map (λ n. n - 1) (axes size))) (four 1 step unused.steps)
      ∙ (search (rules, four, stepped-append, used, length-map, stepped-unused)))

  -- so a test along four axes tells whether the window lies in an array
  pub lies_in-axes : (ns : List ℕ) → length ns ≡ d → length (mapped (window_of d origin size step) (map (λ n. n - 1) (used_axes d size))) ≡ d
      → is_inside (axes (with_unused 1 ns)) (stepped (axes origin) (axes step) (map (λ n. n - 1) (axes size))) ≡ lies_in ns (window_of d origin size step)
  lies_in-axes ns count long =
      let last = mapped (window_of d origin size step) (map (λ n. n - 1) (used_axes d size)) in
      ap (λ xs. is_inside xs (stepped (axes origin) (axes step) (map (λ n. n - 1) (axes size)))) (axes-with_unused 1 ns (omega arith) ∙ ap (λ k. ns ++ replicate (4 - k) 1) count)
      ∙ (ap (is_inside (ns ++ replicate (4 - d) 1)) last_axes ∙ is_inside-append ns last (4 - d) (long ∙ sym count))

-- a position of a box, by its coordinates along four axes
module _ (d : ℕ) (size p : Pos) (dims : d ≤ 4) (sizes : size ≡ with_unused 1 (used_axes d size)) where
  pub sizes_four : axes size ≡ used_axes d size ++ replicate (4 - d) 1
  sizes_four = ap axes sizes ∙ axes-with_unused 1 (used_axes d size) (omega (arith, length-used_axes d size dims)) ∙ ap (λ k. used_axes d size ++ replicate (4 - k) 1) (length-used_axes d size dims)

  -- along unused axes it is 0
  pub IsPosition-inside : is_inside (axes size) (axes p) ≡ true → IsPosition (used_axes d size) p
  IsPosition-inside inside =
      let long = length-used_axes d size dims in
      let parts = inside_parts (used_axes d size) (used_axes d p) (drop d (axes p)) (4 - d) (length-used_axes d p dims ∙ sym long) (omega (arith, length-drop d (axes p)))
      (subst (λ ns. is_inside ns (used_axes d p ++ drop d (axes p)) ≡ true) sizes_four (subst (λ ps. is_inside (axes size) ps ≡ true) (sym (take-append-drop d (axes p))) inside)) in
      let whole : axes p ≡ used_axes d p ++ replicate (4 - d) 0 = sym (take-append-drop d (axes p)) ∙ ap (λ rest. used_axes d p ++ rest) parts.1 in search (rules, same_from_axes, axes-with_unused, length-used_axes)

  pub inside-IsPosition : IsPosition (used_axes d size) p → is_inside (axes size) (axes p) ≡ true
  inside-IsPosition at =
      let long = length-used_axes d size dims in
      let whole : axes p ≡ used_axes d p ++ replicate (4 - d) 0 =
      ap axes at.unused ∙ ap (λ k. axes (with_unused 0 (used_axes k p))) long ∙ axes-with_unused 0 (used_axes d p) (omega (arith, length-used_axes d p dims)) ∙ ap (λ k. used_axes d p ++ replicate (4 - k) 0) (length-used_axes d p dims) in
      search (rules, sizes_four, is_inside-append, length-used_axes)
