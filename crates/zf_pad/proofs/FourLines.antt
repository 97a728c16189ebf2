-- Four lines of one layer of blocks, copied side by side.
use Rattle.std.proofs.Common.{◌≡◌, sym, ap, ◌∙◌, inl, ℕ, ◌+◌, ◌*◌, ◌/◌, ◌%◌, ◌<◌, ◌≤◌, ⊎_elim, ℤ, pos, List}
use Rattle.std.proofs.Common.{get_or, arith}
use Rattle.std.proofs.Math.Nat.{add-mul-mod_self_left, add-mul-div_left, div-eq_of_lt, mod-eq_of_lt, mod-lt}
use Rattle.std.proofs.Math.Nat.{div-add-mod, mul-le-mul_left, mul-le-mul_right}
use Rattle.std.proofs.lemmas.{Bool.{cases_lt}, Nat.{div_below}}
use Rattle.zf_spec.specs.Grid.{IsShape, product}
use Rattle.zf_pad.specs.Stored.{raster_of, line_len, other_sizes, IsKnown, AreFourLines, FourFit}
use Rattle.zf_pad.specs.declared.storing.Known.{Known}
use Rattle.zf_pad.specs.Copies.{IsRunCopied}
use Rattle.zf_pad.proofs.StoredLines.{all_sizes, others_fit, part_fits, block_value, line_end}

-- so many rows of four, each so far behind the one before, stand beside one another
abbrev pub IsLineCopied : (from step to : ℕ) (source part : List ℤ) (n : ℕ) → Type 0
IsLineCopied from step to source part n = (b k : ℕ) → b < n → k < 4 → get_or part (to + (4 * b + k)) (pos 0) ≡ get_or source (from + b * step + k) (pos 0)

-- the next one of them
pub line_more : (from step to at place : ℕ) (source old new : List ℤ) (n : ℕ) → at ≡ from + n * step → place ≡ to + 4 * n
    → IsRunCopied 4 at place source old new → IsLineCopied from step to source old n → IsLineCopied from step to source new (n + 1)
line_more from step to at place source old new n is there row h =
    λ a k lt small.
    ⊎_elim
    (λ (l : a < n). row.others (to + (4 * a + k)) (λ j s e. omega (arith, e, s, small, l, there)) ∙ h a k l small)
    (λ (l : n ≤ a).
    let same : a ≡ n = omega (arith, l, lt) in
    let here : to + (4 * a + k) ≡ place + k = omega (arith, same, there) in
    ap (λ i. get_or new i (pos 0)) here ∙ row.run k small
    ∙ ap (λ j. get_or source (j + k) (pos 0)) is
    ∙ ap (λ j. get_or source (from + j * step + k) (pos 0)) (sym same))
    (cases_lt a n)

-- the first rows of four lines of m values, line by line: row 4 * c + j is row c of line j
pub record AreRowsCopied (from step to m : ℕ) (source part : List ℤ) (rows : ℕ) : Type 0 where
  pub each : (j c k : ℕ) → j < 4 → k < 4 → 4 * c + j < rows
      → get_or part (to + (j * m + (4 * c + k))) (pos 0) ≡ get_or source (from + 4 * j + c * step + k) (pos 0)

-- one row more
pub row_more : (from step to m b i at place rows next : ℕ) (source old new : List ℤ) → i < 4 → 4 * b + 4 ≤ m
    → rows ≡ 4 * b + i → next ≡ rows + 1 → at ≡ from + 4 * i + b * step → place ≡ to + (i * m + 4 * b)
    → IsRunCopied 4 at place source old new → AreRowsCopied from step to m source old rows
    → AreRowsCopied from step to m source new next
row_more from step to m b i at place rows next source old new four room is more there here row h = record {
  each = λ j c k less small lt. ⊎_elim
      (λ (before : 4 * c + j < rows). row.others (to + (j * m + (4 * c + k))) (λ l s e. ⊎_elim
      (λ (earlier : j < i).
      absurd (omega (arith, mul-le-mul_right m (up j i earlier), e, s, small, before, is, here, room)))
      (λ (later : i ≤ j). ⊎_elim
      (λ (behind : i < j).
      absurd (omega (arith, mul-le-mul_right m (up i j behind), e, s, small, before, is, here, room)))
      (λ (same : j ≤ i).
      let one : j ≡ i = omega (arith, same, later) in
      absurd (omega (arith, ap (λ q. q * m) one, one, e, s, small, before, is, here)))
      (cases_lt i j))
      (cases_lt j i)) ∙ h.each j c k less small before)
      (λ (last : rows ≤ 4 * c + j).
      let block : c ≡ b = omega (arith, last, lt, more, is, four, less) in
      let line : j ≡ i = omega (arith, last, lt, more, is, block) in
      ap (λ q. get_or new q (pos 0)) (omega (arith, ap (λ q. q * m) line, block, here))
      ∙ row.run k small
      ∙ ap (λ q. get_or source q (pos 0)) (omega (arith, ap (λ q. q * step) block, line, there)))
      (cases_lt (4 * c + j) rows);
}
  where
    up : (p q : ℕ) → p < q → p + 1 ≤ q
    up p q lt = omega arith

-- ---- which lines they are

-- a line has values where there are any
some_values : (ns : List ℕ) (from n : ℕ) → IsShape ns → n ≡ line_len ns → from < product ns → 0 < n
some_values ns from n shape is lt =
    let all : n * product (other_sizes ns) ≡ product ns = ap (λ m. m * product (other_sizes ns)) is ∙ all_sizes ns shape.four_at_most in
    ⊎_elim (λ l. l) (λ (l : n ≤ 0). let none : n ≡ 0 = omega (arith, l) in absurd (omega (arith, lt, sym all ∙ ap (λ m. m * product (other_sizes ns)) none))) (cases_lt 0 n)

-- where the lines behind the first one of them begin
module _ (from n : ℕ) (begins : from % n ≡ 0) (some : 0 < n) where
  start_of : (j : ℕ) → from + j * n ≡ 0 + n * (from / n + j)
  start_of j = omega (arith, div-add-mod from n, begins)

  x_of : (j : ℕ) → (from + j * n) % n ≡ 0
  x_of j = ap (λ i. i % n) (start_of j) ∙ add-mul-mod_self_left 0 n (from / n + j) ∙ mod-eq_of_lt some

  number_of : (j : ℕ) → (from + j * n) / n ≡ from / n + j
  number_of j = ap (λ i. i / n) (start_of j) ∙ add-mul-div_left 0 (from / n + j) some ∙ ap (λ q. q + (from / n + j)) (div-eq_of_lt some) ∙ omega arith

-- a known line with three behind it
pub are_four_lines : (ns : List ℕ) (from n : ℕ) (k : Known) → IsShape ns → n ≡ line_len ns → from < product ns → from % n ≡ 0 → n % 4 ≡ 0
    → IsKnown (other_sizes ns) k → k.number ≡ from / n → 3 ≤ k.left → AreFourLines ns from n k.line.first k.line.lines k.line.line
are_four_lines ns from n k shape is lt begins whole known number left =
    let some = some_values ns from n shape is lt in
    let x_in = λ (j : ℕ). ap (λ m. (from + j * n) % m) (sym is) ∙ x_of from n begins some j in
    record {
      each = λ j four. record {
        shape = shape;
        n_is = is;
        before =
            let up : from / n + j + 1 ≤ product (other_sizes ns) = omega (arith, known.within, number, left, four) in
            let all : n * product (other_sizes ns) ≡ product ns = ap (λ m. m * product (other_sizes ns)) is ∙ all_sizes ns shape.four_at_most in
            omega (arith, start_of from n begins some j, mul-le-mul_left n up, all, some);
        is = rw (number_of from n begins some j, sym number) (known.each j (omega (arith, four, left)));
        below = omega (arith, known.below, left, four);
        fits = known.fits;
        within = omega (arith, x_in j, is);
        begins = ap (λ x. x % 4) (x_in j);
        whole = inl whole;
      };
      begins = begins;
      whole = whole;
    }

module _ (ns : List ℕ) (from n first lines line : ℕ) (h : AreFourLines ns from n first lines line) where
  some_here : 0 < n
  some_here = some_values ns from n (h.each 0 (omega arith)).shape (h.each 0 (omega arith)).n_is (omega (arith, (h.each 0 (omega arith)).before))

  -- where they lie
  pub four_fit : FourFit ns from n first lines line
  four_fit =
      let top = h.each 0 (omega arith) in
      let low = h.each 3 (omega arith) in
      record {
        there = λ b lt.
            let within = (part_fits _ _ _ _ _ _ _ low).there b lt in
            omega (arith, rw (x_of from n h.begins some_here 3) at within);
        small = omega (arith, rw (x_of from n h.begins some_here 0) at (part_fits _ _ _ _ _ _ _ top).blocks);
        steps = omega (arith, top.fits, others_fit ns top.shape);
        ends = omega (arith, line_end ns (from + 3 * n) n low.shape low.before low.within);
        next = ap (λ x. x % 4)
            (ap (λ m. (from + 4 * n) % m) (sym top.n_is) ∙ x_of from n h.begins some_here 4);
      }

  four_value : (stored : List ℤ) (j b k : ℕ) → j < 4 → b < n / 4 → k < 4
      → get_or (raster_of ns stored) (from + (j * n + (4 * b + k))) (pos 0) ≡ get_or stored (n * first + 4 * line + 4 * j + b * (4 * lines) + k) (pos 0)
  four_value stored j b k four lt small =
      let place : n * first + (from + j * n) % n * lines + 4 * (line + j) + b * (4 * lines) + k ≡ n * first + 4 * line + 4 * j + b * (4 * lines) + k =
      rw (x_of from n h.begins some_here j) (omega arith) in
      ap (λ i. get_or (raster_of ns stored) i (pos 0)) (omega arith) ∙ block_value _ _ _ _ _ _ _ (h.each j four) stored b k lt small ∙ ap (λ i. get_or stored i (pos 0)) place

  -- so the values are those of the lines, where the rows are
  pub four_values : (stored part : List ℤ) (to : ℕ)
      → ((j b k : ℕ) → j < 4 → b < n / 4 → k < 4 → get_or part (to + (j * n + (4 * b + k))) (pos 0) ≡ get_or stored (n * first + 4 * line + 4 * j + b * (4 * lines) + k) (pos 0))
      → (i : ℕ) → i < 4 * n → get_or part (to + i) (pos 0) ≡ get_or (raster_of ns stored) (from + i) (pos 0)
  four_values stored part to rows i lt =
      let j = i / n in
      let x = i % n in
      let four : j < 4 = div_below i n 4 some_here (omega (arith, lt)) in
      let place : j * n + (4 * (x / 4) + x % 4) ≡ i = omega (arith, div-add-mod i n) in
      let inside : x / 4 < n / 4 = omega (arith, mod-lt i some_here, h.whole) in
      let small : x % 4 < 4 = omega arith in
      ap (λ m. get_or part (to + m) (pos 0)) (sym place)
      ∙ rows j (x / 4) (x % 4) four inside small
      ∙ sym (four_value stored j (x / 4) (x % 4) four inside small)
      ∙ ap (λ m. get_or (raster_of ns stored) (from + m) (pos 0)) place
