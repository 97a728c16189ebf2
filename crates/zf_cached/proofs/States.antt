-- States whose parts are equal.
use Rattle.std.{proofs.Common.{◌≡◌, ℕ}, proofs.Math.Path.{fun_ext}}
use Rattle.zf_cached.specs.State.{State}

-- two states are equal where they have the same number of lines, the same in each line, and the same of each block
pub same_state : {Code : Type 0} (s t : State Code) → s.lines ≡ t.lines → ((l : ℕ) → s.held l ≡ t.held l) → ((b : ℕ) → s.dirty b ≡ t.dirty b)
    → ((b : ℕ) → s.values b ≡ t.values b) → ((b : ℕ) → s.codes b ≡ t.codes b) → s.counts ≡ t.counts → s ≡ t
same_state s t lines held dirty values codes counts = λ i. record {
  lines = lines i;
  held = fun_ext held i;
  dirty = fun_ext dirty i;
  values = fun_ext values i;
  codes = fun_ext codes i;
  counts = counts i;
}
