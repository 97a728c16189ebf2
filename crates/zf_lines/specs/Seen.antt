-- What lines are seen as.
use Rattle.std.specs.Prelude.{ℕ, ◌+◌, max, List, replicate, refl}
use Rattle.std.specs.Coded.{Coded, code_by, coded×, coded_list, coded_ℕ}

pub record Seen (X : Type 0) : Type 0 where
  pub blocks : List (List X)
  -- so many of the first blocks are written, and can be lent
  pub written : ℕ

abbrev pub seen_code : {X : Type 0} → Coded X → Coded (Seen X)
seen_code {X} c =
    code_by (List (List X) × ℕ) (coded× (coded_list (coded_list c)) coded_ℕ)
    (λ s. (s.blocks, s.written)) (λ p. record { blocks = p.0; written = p.1 }) (λ _. refl)

module _ {X : Type 0} where
  -- l blocks of n zeros, and none is written
  abbrev pub none_written : ℕ → ℕ → X → Seen X
  none_written l n zero = record { blocks = replicate l (replicate n zero); written = 0 }

  -- the same blocks, written up to block i
  abbrev pub written_to : Seen X → ℕ → Seen X
  written_to s i = record s { written = max s.written (i + 1) }
