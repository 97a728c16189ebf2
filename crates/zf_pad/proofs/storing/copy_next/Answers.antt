use Rattle.std.proofs.Common.{◌≡◌, ℕ, ◌+◌, ◌-◌, ◌%◌, ◌≤◌, ◌⊎◌, inl, inr, ⊎_elim, map, ap, sym, arith}
use Rattle.zf_pad.{specs.Stored.{line_len, values_in}, proofs.StoredLines.{next_first, line_end, line_some}}
use Rattle.zf_pad.proofs.FourLines.{four_values}
use Rattle.zf_pad.proofs.storing.copy_next.Goals as goal

pub copy_four-requires-clause-there : goal.copy_four-requires-clause-there
copy_four-requires-clause-there g c = λ b lt. omega (arith, c.in-Some.ensures.fits.there b lt, c.requires.all)

pub returns-in-Some-clause-values : goal.returns-in-Some-clause-values
returns-in-Some-clause-values g c =
    four_values _ _ _ _ _ _ c.in-Some.ensures.four (map g.T.Lane.value c.args.stored.now) (values_in g.T.Lane.width c.copy_four.new.piece) c.args.to c.copy_four.ensures.rows

-- so much of a line, by its size as the shape tells it
module _ (n m at count : ℕ) (is : m ≡ n) (some : 1 ≤ count) (left : count ≤ m - at % m) where
  x_is : at % n ≡ at % m
  x_is = ap (λ k. at % k) (sym is)

  on_line : at % n + count ≤ n
  on_line = omega (arith, x_is, is, some, left)

  or_all : (count % 4 ≡ 0) ⊎ (count ≡ m - at % m) → (count % 4 ≡ 0) ⊎ (at % n + count ≡ n)
  or_all whole = ⊎_elim (λ fours. inl fours) (λ all. inr (omega (arith, all, x_is, is, some, left))) whole

pub returns-clause-within : goal.returns-clause-within
returns-clause-within g c =
    line_end c.args.shape.now c.args.from c.next_count-count.result c.dims-dims.ensures.shape c.requires.within
    (on_line (line_len c.args.shape.now) c.size-n.result c.args.from c.next_count-count.result c.size-n.ensures c.next_count-count.ensures.some c.next_count-count.ensures.left)

pub returns-clause-first : goal.returns-clause-first
returns-clause-first g c =
    let some = c.next_count-count.ensures.some in
    let left = c.next_count-count.ensures.left in
    next_first (line_len c.args.shape.now) c.args.from c.next_count-count.result c.requires.first
    (on_line (line_len c.args.shape.now) c.size-n.result c.args.from c.next_count-count.result c.size-n.ensures some left)
    (or_all (line_len c.args.shape.now) c.size-n.result c.args.from c.next_count-count.result c.size-n.ensures some left c.next_count-count.ensures.whole)

pub returns-in-Some-clause-some : goal.returns-in-Some-clause-some
returns-in-Some-clause-some g c = omega (arith, line_some _ c.dims-dims.ensures.shape, c.size-n.ensures)
