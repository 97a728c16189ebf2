-- Sums of the values of a window, touch by touch.
use Rattle.std.proofs.Common.{◌≡◌, refl, sym, ap, subst, ◌∙◌, ℕ, zero, suc, ◌+◌, ◌*◌, ◌^◌, ◌<◌, ◌≤◌, ℤ, ◌+ℤ◌, FitsSigned, to_z, of_z, false, List, arith, rules}
use Rattle.std.{specs.Int.{w128}, proofs.lemmas.Int.{ints, to_z-of_z}}
use Rattle.zf_base.{specs.declared.position.Pos.{Pos}, specs.Formats.{Format}}
use Rattle.zf_cached.{specs.State.{State}, specs.Touch.{touch}, specs.Windows.{Window}}
use Rattle.zf_cached.{specs.Unwritten.{IsUnwritten}, specs.Placing.{direct}}
use Rattle.zf_cached.proofs.Caching.{touch-left_clean}
use Rattle.zf_window.{specs.Positions.{raster_at}, specs.Bounds.{IsUpTo}, proofs.Bounds.{up_to_fits}}
use Rattle.zf_view.specs.Sums.{block_of, value_in, sum_in, touched_to, sum_found}

-- ---- where nothing is dirty

module _ {Code : Type 0} (codes : ℕ → Code) (values : ℕ → List ℤ) where
  -- a touch leaves it so
  pub touch-unwritten : (format : Format Code) (s : State Code) (a : ℕ) → IsUnwritten codes values s → IsUnwritten codes values (touch format s a)
  touch-unwritten format s a h = record {
    codes = (λ i b. (touch-left_clean direct format s a b (h.clean b)).code i) ∙ h.codes;
    values = (λ i b. (touch-left_clean direct format s a b (h.clean b)).values i) ∙ h.values;
    clean = λ b. (touch-left_clean direct format s a b (h.clean b)).dirty ∙ h.clean b;
  }

  pub touched_to-unwritten : (format : Format Code) (ns : List ℕ) (s : State Code) (w : Window) (n : ℕ) → IsUnwritten codes values s → IsUnwritten codes values (touched_to format ns s w n)
  unfolding touched_to
  touched_to-unwritten format ns s w zero h = h
  touched_to-unwritten format ns s w (suc n) h = touch-unwritten format (touched_to format ns s w n) (block_of ns (raster_at w n)) (touched_to-unwritten format ns s w n h)

-- each touch finds the value that the array had
pub sum_found-unwritten : {Code : Type 0} (format : Format Code) (ns : List ℕ) (s : State Code) (w : Window) (n : ℕ) → IsUnwritten s.codes s.values s → sum_found format ns s w n ≡ sum_in ns s w n
unfolding sum_found sum_in
sum_found-unwritten format ns s w zero h = refl
sum_found-unwritten {Code} format ns s w (suc n) h =
    let there = touched_to-unwritten s.codes s.values format ns s w (suc n) h in
    let value_by : (ℕ → List ℤ) → ℤ = λ vs. value_in ns (record s { values = vs }) (raster_at w n) in
    (λ i. sum_found-unwritten format ns s w n h i +ℤ value_by (there.values i))

pub clean_unwritten : {Code : Type 0} (s : State Code) → ((b : ℕ) → s.dirty b ≡ false) → IsUnwritten s.codes s.values s
clean_unwritten s clean = record { codes = refl; values = refl; clean = clean }

-- ---- one value more

-- the sum of as many, and one more
module _ (bits : ℕ) (x : ℤ) (n : ℕ) (few : n < 2 ^ 27) (sum : IsUpTo (2 ^ 63 * n) (to_z w128 bits)) (one : IsUpTo (2 ^ 63) x) where
  pub more : IsUpTo (2 ^ 63 * (n + 1)) (to_z w128 bits +ℤ x)
  more = search (rules, ints)

  x_is : to_z w128 (of_z w128 x) ≡ x
  x_is = to_z-of_z w128 x (up_to_fits x (omega (arith, ints, one.0), omega (arith, ints, one.1)))

  sum_fits : FitsSigned w128 (to_z w128 bits +ℤ x)
  sum_fits = up_to_fits (to_z w128 bits +ℤ x) (let room : 2 ^ 63 * (n + 1) ≤ 2 ^ 100 = omega (arith, few) in (omega (arith, ints, more.0, room), omega (arith, ints, more.1, room)))

  pub more_fits : FitsSigned w128 (to_z w128 bits +ℤ to_z w128 (of_z w128 x))
  more_fits = subst (λ y. FitsSigned w128 (to_z w128 bits +ℤ y)) (sym x_is) sum_fits

  pub more_is : to_z w128 (of_z w128 (to_z w128 bits +ℤ to_z w128 (of_z w128 x))) ≡ to_z w128 bits +ℤ x
  more_is = to_z-of_z w128 (to_z w128 bits +ℤ to_z w128 (of_z w128 x)) more_fits ∙ ap (λ y. to_z w128 bits +ℤ y) x_is

-- in a state to which the touches of the first n positions of a window lead, the touch of the next one, which leads to t and finds v
module _ {Code Kept : Type 0} (format : Kept → Format Code) (shape : Kept → List ℕ) (k l : Kept) (same : l ≡ k) (first s t : State Code) (w : Window) (n : ℕ) (p : Pos)
    (at : p ≡ raster_at w n) (so_far : s ≡ touched_to (format k) (shape k) first w n) (touches : t ≡ touch (format l) s (block_of (shape l) p)) where
  pub touched_more : t ≡ touched_to (format k) (shape k) first w (n + 1)
  unfolding touched_to
  touched_more = search rules

  pub found_more : (sum v : ℤ) → sum ≡ sum_found (format k) (shape k) first w n → v ≡ value_in (shape l) t p → sum +ℤ v ≡ sum_found (format k) (shape k) first w (n + 1)
  unfolding sum_found
  found_more sum v is found = search (rules, touched_more)
