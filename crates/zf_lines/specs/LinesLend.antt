-- What the lines end as, once a `&mut` into one of them has ended.
use Rattle.std.specs.Prelude.{ℕ, List, [], ◌∷◌}
use Rattle.std.specs.Borrow.{Fml, RattleType, MutBor, Array, Lends}
use Rattle.zf_lines.specs.Rows.{with_line, with_part}
use Rattle.zf_lines.specs.Seen.{Seen}
use Rattle.zf_lines.specs.contracts.lines.Lines.{the_row}

module _ (R : RattleType) (s : MutBor (Seen R.Denot)) where
  -- block i is the last list written through r
  abbrev pub LendsLine : ℕ → MutBor (List R.Denot) → Fml
  LendsLine i r = Lends (the_row R) (Array R 0) s r
      (λ ws. record s.now { blocks = with_line s.now.blocks i ws })

  -- the n values of block i from its place a on are the last ones written through r
  abbrev pub LendsPart : ℕ → ℕ → ℕ → MutBor (List R.Denot) → Fml
  LendsPart i a n r = Lends (the_row R) (Array R 0) s r
      (λ ws. record s.now { blocks = with_part s.now.blocks i a n ws })

  -- the value of block i at its place a is the last one written through r
  abbrev pub LendsValue : ℕ → ℕ → MutBor R.Denot → Fml
  LendsValue i a r = Lends (the_row R) R s r
      (λ v. record s.now { blocks = with_part s.now.blocks i a 1 (v ∷ []) })
