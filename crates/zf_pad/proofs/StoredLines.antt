-- The lines of an array whose values are kept in the order of blocks.
use Rattle.std.proofs.Common.{rules, ◌≡◌, ◌≢◌, refl, sym, ap, ◌∙◌, ℕ, zero, suc, ◌+◌, ◌-◌, ◌*◌, ◌/◌, ◌%◌, ◌<◌, ◌≤◌, ◌^◌, ◌⊎◌, ⊎_elim, min, ℤ, pos, List, [], ◌∷◌, ◌++◌, length, get_or, take, drop, replicate, mod-eq_of_lt, mul-le-mul_left, arith, ext_get_or, length-drop, lit≤}
use Rattle.std.proofs.Math.Nat.{add-mul-mod_self_left, add-mul-div_left, div-eq_of_lt, div-add-mod, mul-mod_right, mul-le-mul_right, le-mul_of_pos_right}
use Rattle.std.{proofs.lemmas.Bool.{cases_lt}, proofs.lemmas.Nat.{div_below}}
use Rattle.std.proofs.lemmas.List.{length-map, get_or-take, get_or-drop, length-take-le}
use Rattle.zf_spec.specs.Grid.{IsShape, product, coordinates, extents, max_values}
use Rattle.zf_spec.{proofs.Counting.{get_or-map-upto}, proofs.Raster.{length-coordinates, length-extents}}
use Rattle.zf_base.proofs.Boxes.{product-append_ones, raster-append_zeros, coordinates-append_ones, extents-append_ones}
use Rattle.zf_base.{proofs.Extents.{map-zeros}, proofs.Sizes.{axes-with_unused, all_axes, product-axes}}
use Rattle.zf_pad.specs.Stored.{start_at, stored_index, raster_of, line_len, other_sizes, IsLine, IsKnown}
use Rattle.zf_pad.specs.Stored.{LinePart, PartFits}
use Rattle.zf_pad.specs.declared.storing.{Line.{Line}, Known.{Known}}

-- ---- along four axes

start_at-append_ones : (ns cs : List ℕ) (k : ℕ) → length cs ≡ length ns → start_at (ns ++ replicate k 1) (cs ++ replicate k 0) ≡ start_at ns cs
start_at-append_ones [] [] zero e = refl
start_at-append_ones [] [] (suc k) e = omega (arith, start_at-append_ones [] [] k refl)
start_at-append_ones (n ∷ ns) (c ∷ cs) k e =
    let long : length cs ≡ length ns = omega arith in
    ap (λ v. 4 * c * v + n * start_at (ns ++ replicate k 1) (cs ++ replicate k 0)) (ap product (extents-append_ones ns cs k long) ∙ product-append_ones (extents ns cs) k)
    ∙ ap (λ s. 4 * c * product (extents ns cs) + n * s) (start_at-append_ones ns cs k long)
start_at-append_ones ns cs k e = absurd (omega arith)

stored_index-append_ones : (ns ps : List ℕ) (k : ℕ) → length ps ≡ length ns → stored_index (ns ++ replicate k 1) (ps ++ replicate k 0) ≡ stored_index ns ps
stored_index-append_ones ns ps k e = search (rules, length-map, length-extents, map-zeros, extents-append_ones, start_at-append_ones, raster-append_zeros)

-- the sizes along four axes
sizes_are : (ns : List ℕ) → length ns ≤ 4 → line_len ns ∷ other_sizes ns ≡ ns ++ replicate (4 - length ns) 1
sizes_are ns four = axes-with_unused 1 ns four

pub all_sizes : (ns : List ℕ) → length ns ≤ 4 → line_len ns * product (other_sizes ns) ≡ product ns
all_sizes ns four = product-axes ns four

index_by_four : (ns : List ℕ) (k : ℕ) → length ns ≤ 4
    → stored_index ns (coordinates ns k) ≡ stored_index (line_len ns ∷ other_sizes ns) (coordinates (line_len ns ∷ other_sizes ns) k)
index_by_four ns k four =
    let m = 4 - length ns in
    sym (ap (λ ms. stored_index ms (coordinates ms k)) (sizes_are ns four)
    ∙ ap (stored_index (ns ++ replicate m 1)) (coordinates-append_ones ns m k)
    ∙ stored_index-append_ones ns (coordinates ns k) m (length-coordinates ns k))

-- ---- a line

-- a line has a value
pub line_some : (ns : List ℕ) → IsShape ns → 1 ≤ line_len ns
line_some ns shape = (all_axes (λ n. 1 ≤ n) ns shape.four_at_most (lit≤ tt) shape.not_zero).0

-- the lines along x are no more than the values
pub others_fit : (ns : List ℕ) → IsShape ns → product (other_sizes ns) ≤ max_values
others_fit ns shape =
    let some = all_axes (λ n. 1 ≤ n) ns shape.four_at_most (lit≤ tt) shape.not_zero in
    omega (arith, le-mul_of_pos_right {m = line_len ns} (product (other_sizes ns)) some.0, all_sizes ns shape.four_at_most, shape.not_too_large)

pub along_fits : (n p first lines : ℕ) → p < n → 4 * (p / 4) * lines + n * first + min 4 (n - 4 * (p / 4)) * lines ≤ n * (first + lines)
along_fits n p first lines lt =
    let within : 4 * (p / 4) + min 4 (n - 4 * (p / 4)) ≤ n = omega (arith, lt) in
    omega (arith, mul-le-mul_right lines within)

-- where a line has its value at x
abbrev pub place_on : ℕ → ℕ → ℕ → ℕ → ℕ → ℕ
place_on n first lines line x = 4 * (x / 4) * lines + n * first + (x % 4 + min 4 (n - 4 * (x / 4)) * line)

module _ (n : ℕ) (ns ps : List ℕ) (first lines line x : ℕ) (h : IsLine ns ps first lines line) where
  line_place : stored_index (n ∷ ns) (x ∷ ps) ≡ place_on n first lines line x
  line_place = search rules

-- the value with a raster number
pub value_on_line : (ns : List ℕ) (stored : List ℤ) (k first lines line : ℕ) → length ns ≤ 4 → k < product ns → IsLine (other_sizes ns) (coordinates (other_sizes ns) (k / line_len ns)) first lines line
    → get_or (raster_of ns stored) k (pos 0) ≡ get_or stored (place_on (line_len ns) first lines line (k % line_len ns)) (pos 0)
value_on_line ns stored k first lines line four lt h = search (rules, get_or-map-upto, index_by_four, line_place)

-- ---- values beside one another on a line

-- so many places on, where the line does not end before
pub record SameLine (n k i : ℕ) : Type 0 where
  pub x_is : (k + i) % n ≡ k % n + i
  pub line_is : (k + i) / n ≡ k / n

pub same_line : (n k i : ℕ) → k % n + i < n → SameLine n k i
same_line n k i lt =
    let some : 0 < n = omega arith in
    let is : k + i ≡ (k % n + i) + n * (k / n) = omega (arith, div-add-mod k n) in
    record {
      x_is = ap (λ j. j % n) is ∙ add-mul-mod_self_left (k % n + i) n (k / n) ∙ mod-eq_of_lt lt;
      line_is = ap (λ j. j / n) is ∙ add-mul-div_left (k % n + i) (k / n) some ∙ ap (λ q. q + k / n) (div-eq_of_lt lt) ∙ omega arith;
    }

-- what comes behind whole blocks of a line, or behind all of it, is the first of its block
pub next_first : (n k count : ℕ) → k % n % 4 ≡ 0 → k % n + count ≤ n → (count % 4 ≡ 0) ⊎ (k % n + count ≡ n) → (k + count) % n % 4 ≡ 0
next_first n k count first within whole =
    ⊎_elim
    (search (rules, same_line))
    (λ (ge : n ≤ k % n + count).
    let is : k + count ≡ n * (k / n + 1) = omega (arith, div-add-mod k n, within, ge) in
    ap (λ j. j % 4) (ap (λ j. j % n) is ∙ mul-mod_right n (k / n + 1)))
    (cases_lt (k % n + count) n)

module _ (n first lines line x all : ℕ) (begins : x % 4 ≡ 0) (below : line < lines) (fits : n * (first + lines) ≤ all) where
  -- the values of a whole block
  pub block_place : (b k : ℕ) → k < 4 → x + (4 * b + 4) ≤ n → place_on n first lines line (x + (4 * b + k)) ≡ n * first + x * lines + 4 * line + b * (4 * lines) + k
  block_place b k small within =
      let q : 4 * ((x + (4 * b + k)) / 4) ≡ x + 4 * b = omega (arith, begins, small) in
      let r : (x + (4 * b + k)) % 4 ≡ k = omega (arith, begins, small) in
      let e : min 4 (n - (x + 4 * b)) ≡ 4 = omega (arith, within) in
      rw (q, r, e) (omega arith)

  pub block_within : (b : ℕ) → x + (4 * b + 4) ≤ n → n * first + x * lines + 4 * line + b * (4 * lines) + 4 ≤ all
  block_within b within = omega (arith, mul-le-mul_right lines within, below, fits)

  -- and those of the last one, of which fewer exist
  pub rest_place : (b rest k : ℕ) → k < rest → rest < 4 → x + (4 * b + rest) ≡ n → place_on n first lines line (x + (4 * b + k)) ≡ n * first + x * lines + 4 * b * lines + rest * line + k
  rest_place b rest k small few is =
      let q : 4 * ((x + (4 * b + k)) / 4) ≡ x + 4 * b = omega (arith, begins, small, few) in
      let r : (x + (4 * b + k)) % 4 ≡ k = omega (arith, begins, small, few) in
      let e : min 4 (n - (x + 4 * b)) ≡ rest = omega (arith, is, few) in
      rw (q, r, e) (omega arith)

  pub rest_within : (b rest : ℕ) → x + (4 * b + rest) ≤ n → n * first + x * lines + 4 * b * lines + rest * line + rest ≤ all
  rest_within b rest within =
      let up : line + 1 ≤ lines = omega (arith, below) in
      omega (arith, mul-le-mul_right lines within, mul-le-mul_left rest up, fits)

-- ---- lines of one layer of blocks

-- along one axis more, in which the place is p: what `along` makes of a line
module _ (n : ℕ) (ns : List ℕ) (k left : ℕ) (inner line : Line) (h : IsLine ns (coordinates ns (k / n)) inner.first inner.lines inner.line)
    (first : line.first ≡ 4 * (k % n / 4) * inner.lines + n * inner.first) (lines : line.lines ≡ min 4 (n - 4 * (k % n / 4)) * inner.lines)
    (number : line.line ≡ k % n % 4 + min 4 (n - 4 * (k % n / 4)) * inner.line) (below : inner.line < inner.lines)
    (on : k % n + left < n) (few : k % n % 4 + left < 4) where
  pub lines_behind : (j : ℕ) → j ≤ left → IsLine (n ∷ ns) (coordinates (n ∷ ns) (k + j)) line.first line.lines (line.line + j)
  lines_behind j le =
      let same = same_line n k j (omega (arith, on, le)) in
      let quarter : (k % n + j) / 4 ≡ k % n / 4 = omega (arith, few, le) in
      let place : (k % n + j) % 4 ≡ k % n % 4 + j = omega (arith, few, le) in
      let sum : line.line + j ≡ k % n % 4 + j + min 4 (n - 4 * (k % n / 4)) * inner.line = omega (arith, number) in
      rw (same.x_is, same.line_is) (record {
        first_is = first ∙ (λ i. 4 * sym quarter i * h.lines_are i + n * h.first_is i);
        lines_are = lines ∙ (λ i. min 4 (n - 4 * sym quarter i) * h.lines_are i);
        line_is = sum ∙ (λ i. sym place i + min 4 (n - 4 * sym quarter i) * h.line_is i);
      })

  pub left_below : line.line + left < line.lines
  left_below =
      let e = min 4 (n - 4 * (k % n / 4)) in
      let more : k % n % 4 + left + 1 ≤ e = omega (arith, on, few) in
      let up : inner.line + 1 ≤ inner.lines = omega (arith, below) in
      omega (arith, number, lines, more, mul-le-mul_left e up)

  pub left_within : k < n * product ns → k + left < n * product ns
  left_within lt =
      let up : k / n + 1 ≤ product ns = omega (arith, div_below k n (product ns) (omega (arith, on)) (omega (arith, lt))) in
      omega (arith, on, div-add-mod k n, mul-le-mul_left n up)

-- a line that is known
pub known_here : (ns : List ℕ) (k : Known) (m : ℕ) → IsKnown ns k → k.number ≡ m → IsLine ns (coordinates ns m) k.line.first k.line.lines k.line.line
known_here ns k m h is =
    let there : k.number + 0 ≡ m = omega (arith, is) in
    let line : k.line.line + 0 ≡ k.line.line = omega arith in
    rw (there, line) at (h.each 0 (omega arith))

-- the next one
pub known_next : (ns : List ℕ) (k : Known) (number : ℕ) → IsKnown ns k → k.left ≢ 0 → k.number + 1 ≡ number
    → IsKnown ns (record { number = number; line = record k.line { line = k.line.line + 1 }; left = k.left - 1 })
known_next ns k number h some next = record {
  each = λ j le.
      let there : k.number + (1 + j) ≡ number + j = omega (arith, next) in
      let line : k.line.line + (1 + j) ≡ k.line.line + 1 + j = omega arith in
      rw (there, line) at (h.each (1 + j) (omega (arith, le, some)));
  below = omega (arith, h.below, some);
  fits = h.fits;
  within = omega (arith, h.within, some, next);
}

-- the number of a line is below the number of lines
pub line_below : (ns : List ℕ) (n from : ℕ) → IsShape ns → n ≡ line_len ns → from < product ns → from / n < product (other_sizes ns)
line_below ns n from shape is lt = search (rules, all_axes, div_below, all_sizes)

-- a line ends within the values
pub line_end : (ns : List ℕ) (from count : ℕ) → IsShape ns → from < product ns → from % line_len ns + count ≤ line_len ns → from + count ≤ product ns
line_end ns from count shape lt within =
    let n = line_len ns in
    let q_below = line_below ns n from shape refl lt in
    let up : from / n + 1 ≤ product (other_sizes ns) = omega (arith, q_below) in
    omega (arith, div-add-mod from n, mul-le-mul_left n up, all_sizes ns shape.four_at_most, within)

module _ (ns : List ℕ) (from count n first lines line : ℕ) (h : LinePart ns from count n first lines line) where
  x_is : from % line_len ns ≡ from % n
  x_is = ap (λ m. from % m) (sym h.n_is)

  pub part_begins : from % n % 4 ≡ 0
  part_begins = omega (arith, x_is, h.begins)

  pub part_within : from % n + count ≤ n
  part_within = omega (arith, x_is, h.within, h.n_is)

  pub all_within : n * (first + lines) ≤ product ns
  all_within = omega (arith, mul-le-mul_left n h.fits, all_sizes ns h.shape.four_at_most, ap (λ m. m * product (other_sizes ns)) h.n_is)

  rest_ends : (k : ℕ) → k < count % 4 → from % n + (4 * (count / 4) + count % 4) ≡ n
  rest_ends k lt = ⊎_elim (λ (fours : count % 4 ≡ 0). absurd (omega (arith, lt, fours))) (λ (all : from % line_len ns + count ≡ line_len ns). omega (arith, all, x_is, h.n_is)) h.whole

  -- where they lie
  pub part_fits : PartFits (from % n) count n first lines line (product ns)
  part_fits =
      let x_below : from % n ≤ n = omega (arith, part_within) in
      let few = mul-le-mul_right lines x_below in
      let fit = others_fit ns h.shape in
      let small : n * first + from % n * lines + 4 * line < 2 ^ 40 =
      omega (arith, all_within, h.shape.not_too_large, few, h.below, h.fits, fit) in
      let rest = rest_within n first lines line (from % n) (product ns) part_begins h.below all_within
      (count / 4) (count % 4) (omega (arith, part_within)) in
      record {
        small = small;
        blocks = omega (arith, small, rest, h.shape.not_too_large);
        there = λ b lt. block_within n first lines line (from % n) (product ns) part_begins h.below all_within
            b (omega (arith, lt, part_within));
        rest = rest;
        few = omega (arith, h.shape.not_too_large);
      }

  -- a value of the line
  value_there : (stored : List ℤ) (i : ℕ) → i < count → get_or (raster_of ns stored) (from + i) (pos 0) ≡ get_or stored (place_on n first lines line (from % n + i)) (pos 0)
  value_there stored i lt =
      let same = same_line n from i (omega (arith, lt, part_within)) in
      let small : from + i < product ns = omega (arith, line_end ns from count h.shape h.before h.within, lt) in search (rules, value_on_line)

  pub block_value : (stored : List ℤ) (b k : ℕ) → b < count / 4 → k < 4
      → get_or (raster_of ns stored) (from + (4 * b + k)) (pos 0) ≡ get_or stored (n * first + from % n * lines + 4 * line + b * (4 * lines) + k) (pos 0)
  block_value stored b k lt small =
      value_there stored (4 * b + k) (omega (arith, lt, small))
      ∙ ap (λ i. get_or stored i (pos 0)) (block_place n first lines line (from % n) (product ns) part_begins h.below all_within b k small (omega (arith, lt, part_within)))

  pub rest_value : (stored : List ℤ) (k : ℕ) → k < count % 4
      → get_or (raster_of ns stored) (from + (4 * (count / 4) + k)) (pos 0) ≡ get_or stored (n * first + from % n * lines + 4 * (count / 4) * lines + count % 4 * line + k) (pos 0)
  rest_value stored k lt =
      value_there stored (4 * (count / 4) + k) (omega (arith, lt))
      ∙ ap (λ i. get_or stored i (pos 0))
      (rest_place n first lines line (from % n) (product ns) part_begins h.below all_within (count / 4) (count % 4) k lt (omega arith) (rest_ends k lt))

-- ---- values so far

-- values that were copied one by one, as a list
pub all_taken : (xs values : List ℤ) (from n : ℕ) → n ≤ length xs → from + n ≤ length values
    → ((i : ℕ) → i < n → get_or xs i (pos 0) ≡ get_or values (from + i) (pos 0))
    → take n xs ≡ take n (drop from values)
all_taken xs values from n room within same =
    let long = length-take-le n xs room in
    let as_long = length-take-le n (drop from values) (omega (arith, length-drop from values, within)) in
    ext_get_or (pos 0) (take n xs) (take n (drop from values)) (long ∙ sym as_long)
    (search (rules, get_or-take, get_or-drop))
