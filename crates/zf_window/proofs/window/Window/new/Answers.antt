use Rattle.std.proofs.Common.{◌≡◌, ◌-◌, List, ℕ, Bool, true, map, length, sym, subst, ◌∙◌, rules}
use Rattle.zf_spec.specs.Grid.{IsShape, is_inside}
use Rattle.zf_cached.specs.Windows.{stepped, lies_in, none_zero}
use Rattle.zf_base.{specs.declared.position.Pos.{Pos}, specs.Positions.{axes, used_axes, with_unused}}
use Rattle.zf_window.specs.WindowFields.{window_of, AreUnused, IsWindowOf}
use Rattle.zf_window.proofs.Axes.{none_zero-axes, none_zero-steps, lies_in-axes}
use Rattle.zf_window.proofs.Parts.{IsWindowOf-lies, LiesIn-tests, last_long, view_fault-none, view_fault-outside}
use Rattle.zf_window.proofs.window.Window.new.Goals as goal

-- what the tests along four axes tell of the window
record Tested (ns : List ℕ) (o s t : Pos) (inside : Bool) : Type 0 where
  sizes : none_zero (used_axes (length ns) s) ≡ true
  steps : none_zero (used_axes (length ns) t) ≡ true
  last : lies_in ns (window_of (length ns) o s t) ≡ inside

tested : (ns : List ℕ) (o s t q : Pos) → IsShape ns → AreUnused (length ns) o s t → none_zero (axes s) ≡ true → none_zero (axes t) ≡ true → q ≡ with_unused 1 ns
    → Tested ns o s t (is_inside (axes q) (stepped (axes o) (axes t) (map (λ n. n - 1) (axes s))))
tested ns o s t q shape unused sizes steps is = search (rules, none_zero-axes, none_zero-steps, lies_in-axes, last_long)

pub returns-then-not-ends_within-clause-fault : goal.returns-then-not-ends_within-clause-fault
returns-then-not-ends_within-clause-fault c = search (rules, tested, view_fault-outside)

pub returns-clause-fault : goal.returns-clause-fault
returns-clause-fault c = search (rules, tested, view_fault-none)

pub invariant_of-result : goal.invariant_of-result
invariant_of-result c =
    let ns = c.args.shape.now in let o = c.args.origin in let s = c.args.size in let p = c.args.step in
    let shape = c.dims-dims.ensures.shape in
    let t = tested ns o s p c.sizes.result shape c.requires (sym c.has_no_zero.ensures ∙ c.if-not-has_no_zero.false) (sym c.has_no_zero-2.ensures ∙ c.if-not-has_no_zero-2.false) c.sizes.ensures in
    subst (λ k. IsWindowOf k o s p) (sym c.dims-dims.ensures.value)
    (IsWindowOf-lies ns o s p shape c.requires (LiesIn-tests ns o s p shape.four_at_most t.sizes t.steps (t.last ∙ (sym c.ends_within.ensures ∙ c.if-not-ends_within.false))))

pub returns-clause-inside : goal.returns-clause-inside
returns-clause-inside c = search (rules, tested)
