-- Raster order by steps: from the first position of a box to the one behind it.
use Rattle.std.proofs.Common.{◌≡◌, ℕ, suc, ◌+◌, ◌-◌, ◌*◌, ◌/◌, ◌%◌, ◌<◌, ◌≤◌, Bool, true, false, ltb, ltb-true, ltb-false, List, [], ◌∷◌, ◌++◌, length, get_or, replicate, refl, ap, sym, subst, ◌∙◌, div-add-mod', arith, rules}
use Rattle.std.{proofs.lemmas.Bool.{and_parts}, proofs.lemmas.Nat.{div-mul-add, mod-mul-add}}
use Rattle.zf_spec.{specs.Grid.{product, coordinates, is_inside}, proofs.Raster.{length-coordinates}}
use Rattle.zf_base.{specs.declared.position.Pos.{Pos}, proofs.Sizes.{axes-with_unused}}
use Rattle.zf_base.specs.Positions.{axes, used_axes, with_unused, IsPosition}
use Rattle.zf_base.proofs.Boxes.{is_inside-coordinates, coordinates-append_ones}
use Rattle.zf_base.proofs.Extents.{length-used_axes, same_from_axes, used_axes-with_unused, IsPosition-with_unused}
use Rattle.zf_cached.specs.Windows.{Window}
use Rattle.zf_window.specs.Positions.{position_at, numbered, raster_at, following, IsWalk}
use Rattle.zf_window.proofs.Axes.{sizes_four, inside-IsPosition}

-- ---- some more, along an axis of n places

pub stays : (n k i : ℕ) → k % n + i < n → ((k + i) % n ≡ k % n + i) × ((k + i) / n ≡ k / n)
stays n k i below =
    let more : k + i ≡ k / n * n + (k % n + i) = omega (arith, div-add-mod' k n) in
    (ap (λ m. m % n) more ∙ mod-mul-add (k / n) n (k % n + i) below, ap (λ m. m / n) more ∙ div-mul-add (k / n) n (k % n + i) below)

turns : (n k : ℕ) → 0 < n → k % n + 1 ≡ n → ((k + 1) % n ≡ 0) × ((k + 1) / n ≡ k / n + 1)
turns n k some last =
    let more : k + 1 ≡ (k / n + 1) * n + 0 = omega (arith, div-add-mod' k n, last) in
    (ap (λ m. m % n) more ∙ mod-mul-add (k / n + 1) n 0 some, ap (λ m. m / n) more ∙ div-mul-add (k / n + 1) n 0 some)

-- behind the position with number k is the one with number k + 1
following_first : (n : ℕ) (ns : List ℕ) (k : ℕ) (b : Bool) → ltb (k % n + 1) n ≡ b → k % n < n → following ns (coordinates ns (k / n)) ≡ coordinates ns (k / n + 1)
    → following (n ∷ ns) (coordinates (n ∷ ns) k) ≡ coordinates (n ∷ ns) (k + 1)
following_first n ns k true is below rest = search (rules, stays, ltb-true)
following_first n ns k false is below rest = search (rules, ltb-false, turns)

pub following-coordinates : (ns : List ℕ) (k : ℕ) → is_inside ns (coordinates ns k) ≡ true → following ns (coordinates ns k) ≡ coordinates ns (k + 1)
following-coordinates [] k inside = refl
following-coordinates (n ∷ ns) k inside =
    let parts = and_parts (ltb (k % n) n) (is_inside ns (coordinates ns (k / n))) inside in
    following_first n ns k (ltb (k % n + 1) n) refl (ltb-true (k % n) n parts.0) (following-coordinates ns (k / n) parts.1)

-- ---- in a window

-- the sizes of a window along four axes, of which the unused ones are 1
module _ (d : ℕ) (size p q : Pos) (four : d ≤ 4) (sizes : size ≡ with_unused 1 (used_axes d size)) (at : IsPosition (used_axes d size) p) (is : axes q ≡ following (axes size) (axes p)) where
  all_axes : (k : ℕ) → coordinates (axes size) k ≡ coordinates (used_axes d size) k ++ replicate (4 - d) 0
  all_axes k = ap (λ ns. coordinates ns k) (sizes_four d size size four sizes) ∙ coordinates-append_ones (used_axes d size) (4 - d) k

  numbered_axes : (k : ℕ) → axes (with_unused 0 (coordinates (used_axes d size) k)) ≡ coordinates (axes size) k
  numbered_axes k = search (rules, length-coordinates, length-used_axes, axes-with_unused, all_axes)

  pub after_is : (k : ℕ) → p ≡ with_unused 0 (coordinates (used_axes d size) k) → q ≡ with_unused 0 (coordinates (used_axes d size) (k + 1))
  after_is k number =
      let now : axes p ≡ coordinates (axes size) k = ap axes number ∙ numbered_axes k in
      let inside = subst (λ ps. is_inside (axes size) ps ≡ true) now (inside-IsPosition d size p four sizes at) in
      same_from_axes q (with_unused 0 (coordinates (used_axes d size) (k + 1)))
      (is ∙ ap (following (axes size)) now ∙ following-coordinates (axes size) k inside ∙ sym (numbered_axes (k + 1)))

-- the first position has zeros alone
zero_at : (ns : List ℕ) (i : ℕ) → get_or (coordinates ns 0) i 0 ≡ 0
zero_at (n ∷ ns) (suc i) = let none : 0 / n ≡ 0 = omega arith in ap (λ m. get_or (coordinates ns m) i 0) none ∙ zero_at ns i
zero_at _ i = search rules

pub numbered-zero : (w : Window) → (let p : Pos = record { x = 0; y = 0; z = 0; w = 0 } in p ≡ numbered w 0)
numbered-zero w = search (rules, zero_at)

-- a position by its number is one of the window's, and is that position of the array
module _ (w : Window) (k : ℕ) (four : length w.size ≤ 4) where
  pub numbered-inside : k < product w.size → IsPosition w.size (numbered w k)
  numbered-inside below = IsPosition-with_unused w.size (coordinates w.size k) four (length-coordinates w.size k) (is_inside-coordinates w.size k below)

  pub position_at-numbered : position_at w (numbered w k) ≡ raster_at w k
  position_at-numbered = search (rules, length-coordinates, used_axes-with_unused)

-- so is the next position of a walk
module _ (w : Window) (here : Pos) (next : ℕ) (is : IsWalk w here next) (below : next < product w.size) where
  pub walk_inside : IsPosition w.size here
  walk_inside = subst (IsPosition w.size) (sym is.here_is) (numbered-inside w next is.four_axes_at_most below)

  pub walk_position : position_at w here ≡ raster_at w next
  walk_position = ap (position_at w) is.here_is ∙ position_at-numbered w next is.four_axes_at_most
