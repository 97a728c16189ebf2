-- The sizes of an extent along four axes, and those along its used ones.
use Rattle.std.proofs.Common.{◌≡◌, ℕ, ◌-◌, ◌≤◌, List, [], ◌∷◌, ◌++◌, length, replicate, All, ap, sym, subst, ◌∙◌, arith, lit≤}
use Rattle.std.{specs.List.{AllByRecursion}, proofs.lemmas.List.Elements.{All-nil, All-cons}}
use Rattle.zf_spec.proofs.Padding.{IsExtent as IsSize}
use Rattle.zf_base.{specs.declared.position.Extent.{Extent}, specs.Positions.{axes, used_axes, IsExtent}}
use Rattle.zf_base.{proofs.Sizes.{all_axes, axes-with_unused}, proofs.Extents.{length-used_axes}}

all_sizes : (ns : List ℕ) → AllByRecursion (λ n. 1 ≤ n) ns → AllByRecursion (λ n. n ≤ 4) ns → All IsSize ns
all_sizes [] some four = All-nil IsSize
all_sizes (n ∷ ns) some four = All-cons IsSize n ns (some.0, four.0) (all_sizes ns some.1 four.1)

module _ (d : ℕ) (e : Extent) (dims : d ≤ 4) (h : IsExtent d e) where
  pub used_length : length (used_axes d e.size) ≡ d
  used_length = length-used_axes d e.size dims

  pub used_sizes : All IsSize (used_axes d e.size)
  used_sizes = all_sizes (used_axes d e.size) h.not_zero h.four_at_most

  -- the other sizes are 1
  pub size_axes : axes e.size ≡ used_axes d e.size ++ replicate (4 - d) 1
  size_axes = ap axes h.unused ∙ axes-with_unused 1 (used_axes d e.size) (omega (arith, used_length)) ∙ ap (λ k. used_axes d e.size ++ replicate (4 - k) 1) used_length

  pub sizes_not_zero : AllByRecursion (λ n. 1 ≤ n) (axes e.size)
  sizes_not_zero = subst (λ s. AllByRecursion (λ n. 1 ≤ n) (axes s)) (sym h.unused) (all_axes (λ n. 1 ≤ n) (used_axes d e.size) (omega (arith, used_length)) (lit≤ tt) h.not_zero)

  pub sizes_four_at_most : AllByRecursion (λ n. n ≤ 4) (axes e.size)
  sizes_four_at_most = subst (λ s. AllByRecursion (λ n. n ≤ 4) (axes s)) (sym h.unused) (all_axes (λ n. n ≤ 4) (used_axes d e.size) (omega (arith, used_length)) (lit≤ tt) h.four_at_most)
