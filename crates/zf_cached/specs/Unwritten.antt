-- How much a flush writes, states in which nothing was written, and lines that write nothing.
use Rattle.std.specs.Prelude.{ℕ, ◌≡◌, suc, zero, ◌+◌, ℤ, Bool, true, false, List, [], ◌∷◌, Some, None, ⊤}
use Rattle.zf_cached.specs.State.{State}
use Rattle.zf_cached.specs.Commands.{Command}
use Rattle.zf_cached.specs.Grammar.{read_line}
use Rattle.zf_cached.specs.Steps.{Setting}
use Rattle.zf_cached.specs.Runs.{only_reads}

-- line l holds a dirty block
abbrev pub holds_dirty : {Code : Type 0} → State Code → ℕ → Bool
holds_dirty s l = elim (s.held l) [ None ↦ false | Some b ↦ s.dirty b ]

-- how many of the first n lines do
unfoldable pub dirty_lines : {Code : Type 0} → State Code → ℕ → ℕ
dirty_lines s zero = 0
dirty_lines s (suc n) = elim (holds_dirty s n) [ true ↦ dirty_lines s n + 1 | false ↦ dirty_lines s n ]

-- a state has these codes and these values, and nothing is dirty
pub record IsUnwritten {Code : Type 0} (k : ℕ → Code) (vs : ℕ → List ℤ) (t : State Code) : Type 0 where
  pub codes : t.codes ≡ k
  pub values : t.values ≡ vs
  pub clean : (b : ℕ) → t.dirty b ≡ false

-- among these lines, read in d dimensions, each command that there is only reads
abbrev pub ReadAlone : {Code : Type 0} → Setting Code → ℕ → List (List ℕ) → Type 0
ReadAlone setting d [] = ⊤
ReadAlone setting d (line ∷ lines) = ((c : Command) → read_line d line ≡ Some c → setting.allows c ≡ true
    → only_reads c ≡ true) × ReadAlone setting d lines
