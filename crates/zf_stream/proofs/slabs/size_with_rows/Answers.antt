use Rattle.std.proofs.Common.{◌≡◌, ◌≢◌, ℕ, zero, suc, ◌+◌, List, [], ◌∷◌, length, get_or, refl, ◌∙◌, arith}
use Rattle.zf_pad.specs.Slabs.{with_rows}
use Rattle.zf_stream.proofs.slabs.size_with_rows.Goals as goal

last_size : (rows axis : ℕ) (ns : List ℕ) → axis + 1 ≡ length ns → rows ≡ get_or (with_rows rows ns) axis 1
last_size rows axis [] is = absurd (omega arith)
last_size rows zero (n ∷ []) is = refl
last_size rows (suc axis) (n ∷ m ∷ ns) is = last_size rows axis (m ∷ ns) (omega arith)
last_size rows axis ns is = absurd (omega arith)

other_size : (rows axis : ℕ) (ns : List ℕ) → axis + 1 ≢ length ns → get_or ns axis 1 ≡ get_or (with_rows rows ns) axis 1
other_size rows axis [] other = refl
other_size rows zero (n ∷ []) other = absurd (other refl)
other_size rows (suc axis) (n ∷ []) other = refl
other_size rows zero (n ∷ m ∷ ns) other = refl
other_size rows (suc axis) (n ∷ m ∷ ns) other = other_size rows axis (m ∷ ns) (λ e. other (omega arith))

pub returns-then-axis-dims : goal.returns-then-axis-dims
returns-then-axis-dims c = last_size c.args.rows c.args.axis c.args.shape.now (omega (arith, c.if-axis-dims.true, c.dims.ensures.value))

pub returns-else-axis-dims : goal.returns-else-axis-dims
returns-else-axis-dims c = c.size.ensures ∙ other_size c.args.rows c.args.axis c.args.shape.now (λ e. c.if-axis-dims.false (omega (arith, e, c.dims.ensures.value)))
