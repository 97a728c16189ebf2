-- In which line a block is, or goes: all in which caches differ.
--     `line n held dirty b` is the line of block b among n lines, where they hold these blocks and these are dirty: the line that
--     it is in, or else the line that it goes to.
use Rattle.std.specs.Prelude.{◌≡◌, ℕ, ◌%◌, ◌<◌, Bool, Option, Some, refl}
use Rattle.std.proofs.lemmas.Nat.{mod_below}
use Rattle.zf_cached.specs.State.{State, is_block}

abbrev pub Line : Type 0
Line = ℕ → (ℕ → Option ℕ) → (ℕ → Bool) → ℕ → ℕ

-- the line of a block is one that may hold it, `may_hold n b l`; and where one that may does, and no other
-- line does, it is that line
pub record IsPlacing (line : Line) (may_hold : ℕ → ℕ → ℕ → Type 0) : Type 0 where
  pub inside : (n : ℕ) (held : ℕ → Option ℕ) (dirty : ℕ → Bool) (b : ℕ) → 0 < n → line n held dirty b < n
  pub allowed : (n : ℕ) (held : ℕ → Option ℕ) (dirty : ℕ → Bool) (b : ℕ) → may_hold n b (line n held dirty b)
  pub found : (n : ℕ) (held : ℕ → Option ℕ) (dirty : ℕ → Bool) (b l : ℕ) → may_hold n b l → held l ≡ Some b
      → ((m : ℕ) → held m ≡ Some b → m ≡ l) → line n held dirty b ≡ l

-- the line of block b in a state
abbrev pub line_in : {Code : Type 0} → Line → State Code → ℕ → ℕ
line_in line s b = line s.lines s.held s.dirty b

-- block b is here: its line holds it
abbrev pub is_at : {Code : Type 0} → Line → State Code → ℕ → Bool
is_at line s b = is_block (s.held (line_in line s b)) b

-- ---- each block has one line: its number modulo the number of lines

abbrev pub direct : Line
direct n held dirty b = b % n

abbrev pub IsDirect : ℕ → ℕ → ℕ → Type 0
IsDirect n b l = b % n ≡ l

pub direct_placing : IsPlacing direct IsDirect
direct_placing = record {
  inside = λ n held dirty b some. mod_below b n some;
  allowed = λ n held dirty b. refl;
  found = λ n held dirty b l own is only. own;
}
