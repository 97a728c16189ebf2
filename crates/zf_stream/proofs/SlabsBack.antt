-- The blocks and the values of an array, slab by slab, as they are restored.
use Rattle.std.proofs.Common.{rules, ◌≡◌, refl, sym, ap, ◌∙◌, ℕ, zero, suc, ◌+◌, ◌-◌, ◌*◌, ◌/◌, ◌<◌, ◌≤◌, inl, Bool, ℤ, pos, List, [], ◌++◌, map, length, get_or, take, drop, Option, Result, Ok, Err, mul_comm, take_at, drop_at, arith}
use Rattle.std.proofs.lemmas.List.{append-nil, length-map, map-append, take_all}
use Rattle.std.proofs.Math.Nat.{mul-add, mul-le-mul_left}
use Rattle.zf_spec.specs.Grid.{product, grid, blocks, upto, count_from, coordinates, raster, extent_of, block_of, blocks_of}
use Rattle.zf_spec.proofs.Counting.{map-upto_same, count_from-add, from_places, length-upto}
use Rattle.zf_spec.proofs.Raster.{raster-coordinates, length-coordinates}
use Rattle.zf_base.{specs.Widths.{width_of}, specs.Places.{block_number, place_of}}
use Rattle.zf_base.{proofs.Boxes.{is_inside-coordinates}, proofs.Places.{IsAt-position}}
use Rattle.zf_pad.specs.Slabs.{rows_of, row_len, with_rows, IsSlab, slab_of, first_block}
use Rattle.zf_pad.proofs.Slabs.{product-rows, product-with_rows, length-with_rows, grid-with_rows, blocks-with_rows, coordinates-rows_on, raster-rows_on, rows_on-none, block_of-slab}
use Rattle.zf_pad.proofs.Blocks.{value_of_block}
use Rattle.zf_header.specs.declared.header.Header.{Header}
use Rattle.zf_parse.specs.Parsing.{read_code, read_codes, values_of_blocks}
use Rattle.zf_parse.proofs.Steps.{read_next, read_codes-suc}
use Rattle.zf_stream.{specs.Restoring.{blocks_of_rows}, proofs.Rows.{map-count_from}}
use Rattle.zf_stream.proofs.Slabwise.{with_shape}

-- ---- the codes of a slab, as codes of the array

-- the numbers of blocks counted from the array's first
abbrev pub counted_from : ℕ → Result (List (List ℤ) × List Bool) ℕ → Result (List (List ℤ) × List Bool) ℕ
counted_from first (Ok found) = Ok found
counted_from first (Err b) = Err (first + b)

read_next-counted : (first b : ℕ) (s : List Bool) (c : Option (List ℤ × ℕ)) (r q : List Bool → Result (List (List ℤ) × List Bool) ℕ) → ((t : List Bool) → r t ≡ counted_from first (q t))
    → read_next (first + b) s c r ≡ counted_from first (read_next b s c q)
read_next-counted first b s _ r q same = search rules

pub read_codes-slab : (h : Header) (shape : List ℕ) (first b n : ℕ) (s : List Bool) → ((j : ℕ) → j < b + n → extent_of h.shape (first + j) ≡ extent_of shape j)
    → read_codes h (first + b) n s ≡ counted_from first (read_codes (with_shape h shape) b n s)
read_codes-slab h shape first b zero s same = refl
read_codes-slab h shape first b (suc n) s same =
    let w = width_of h.ty in
    let next : suc (first + b) ≡ first + suc b = omega arith in
    read_codes-suc h (first + b) n s
    ∙ ap (λ es. read_next (first + b) s (read_code w h.mode es s) (read_codes h (suc (first + b)) n)) (same b (omega arith))
    ∙ read_next-counted first b s (read_code w h.mode (extent_of shape b) s) (read_codes h (suc (first + b)) n) (read_codes (with_shape h shape) (suc b) n)
    (λ t. ap (λ k. read_codes h k n t) next ∙ read_codes-slab h shape first (suc b) n t (λ j lt. same j (omega (arith, lt))))
    ∙ ap (counted_from first) (sym (read_codes-suc (with_shape h shape) b n s))

-- ---- the blocks of first rows

-- they depend on the values of these rows alone
block_more : (ns : List ℕ) (rows b : ℕ) (values more : List ℤ) → IsSlab ns 0 rows → length values ≡ row_len ns * rows → b < first_block ns ((rows + 3) / 4)
    → block_of ns (values ++ more) b ≡ block_of ns values b
block_more ns rows b values more slab long lt =
    let below : b < blocks (with_rows rows ns) = omega (arith, blocks-with_rows rows ns slab.some_axis, lt) in
    let place : first_block ns 0 + b ≡ b = omega (arith, mul_comm (row_len (grid ns)) 0) in
    let start : row_len ns * (4 * 0) ≡ 0 = omega (arith, mul_comm (row_len ns) 0) in
    let same : slab_of ns (values ++ more) 0 rows ≡ slab_of ns (values ++ []) 0 rows =
    ap (λ k. take (row_len ns * rows) (drop k (values ++ more))) start ∙ take_at values more (row_len ns * rows) long
    ∙ sym (ap (λ k. take (row_len ns * rows) (drop k (values ++ []))) start ∙ take_at values [] (row_len ns * rows) long) in
    ap (block_of ns (values ++ more)) (sym place)
    ∙ block_of-slab ns 0 rows slab b below (values ++ more)
    ∙ ap (λ vs. block_of (with_rows rows ns) vs b) same
    ∙ sym (block_of-slab ns 0 rows slab b below (values ++ []))
    ∙ ap (block_of ns (values ++ [])) place ∙ ap (λ vs. block_of ns vs b) (append-nil values)

module _ (ns : List ℕ) (c here : ℕ) (slab : IsSlab ns c here) (values more : List ℤ) (long : length values ≡ row_len ns * (4 * c)) (as_long : length more ≡ row_len ns * here) where
  pub count_next : first_block ns ((4 * c + here + 3) / 4) ≡ first_block ns c + blocks (with_rows here ns)
  count_next = grind (arith, mul-add, blocks-with_rows)

  first_rows : IsSlab ns 0 (4 * c)
  first_rows = record { some_axis = slab.some_axis; within = omega (arith, slab.within); whole = inl (omega arith) }

  -- with those of one slab more
  pub blocks_next : blocks_of_rows ns (4 * c + here) (values ++ more) ≡ blocks_of_rows ns (4 * c) values ++ blocks_of (with_rows here ns) more
  blocks_next =
      let b = first_block ns c in
      let n = blocks (with_rows here ns) in
      let f = block_of ns (values ++ more) in
      let down : (4 * c + 3) / 4 ≡ c = omega arith in
      let zero_on : 0 + b ≡ b = omega arith in
      let same : slab_of ns (values ++ more) c here ≡ more =
      ap (take (row_len ns * here)) (drop_at values more (row_len ns * (4 * c)) long) ∙ take_all (row_len ns * here) more (omega (arith, as_long)) in
      ap (λ k. map f (upto k)) count_next
      ∙ ap (map f) (count_from-add 0 b n ∙ ap (λ k. upto b ++ count_from k n) zero_on)
      ∙ map-append f (upto b) (count_from b n)
      ∙ ap (λ (bs : List (List ℤ)). bs ++ map f (count_from b n))
      (map-upto_same f (block_of ns values) b (λ j lt. block_more ns (4 * c) j values more first_rows long (omega (arith, lt, ap (first_block ns) down)))
      ∙ ap (λ k. map (block_of ns values) (upto (first_block ns k))) (sym down))
      ∙ ap (λ (bs : List (List ℤ)). blocks_of_rows ns (4 * c) values ++ bs)
      (map-count_from f b n
      ∙ map-upto_same (λ j. f (b + j)) (block_of (with_rows here ns) more) n
      (λ j lt. block_of-slab ns c here slab j lt (values ++ more) ∙ ap (λ vs. block_of (with_rows here ns) vs j) same))

-- ---- the values of first blocks

-- a position in the first rows lies in one of their blocks
number_below : (ns : List ℕ) (rows i : ℕ) → IsSlab ns 0 rows → i < row_len ns * rows → block_number ns (coordinates ns i) < first_block ns ((rows + 3) / 4)
number_below ns rows i slab lt =
    let part = with_rows rows ns in
    let below : i < product part = omega (arith, lt, product-with_rows rows ns slab.some_axis) in
    let place : row_len ns * 0 + i ≡ i = omega (arith, mul_comm (row_len ns) 0) in
    let same : coordinates ns i ≡ coordinates part i =
    ap (coordinates ns) (sym place) ∙ coordinates-rows_on ns 0 rows i slab.some_axis (omega (arith, slab.within)) below ∙ rows_on-none (coordinates part i) in
    let ps = coordinates part i in
    let long : length ps ≡ length part = length-coordinates part i in
    let at = IsAt-position part ps long (is_inside-coordinates part i below) in
    let qs = map (λ p. p / 4) ps in
    let axes : length (grid ns) ≡ length ns = length-map ns (λ n. (n + 3) / 4) in
    let many : length qs ≡ length (grid ns) = omega (arith, length-map ps (λ p. p / 4), long, length-with_rows rows ns, axes) in
    let numbers : raster (grid ns) qs ≡ raster (grid part) qs =
    ap (raster (grid ns)) (sym (rows_on-none qs)) ∙ raster-rows_on (grid ns) qs 0 ((rows + 3) / 4) (omega (arith, axes, slab.some_axis)) many
    ∙ omega (arith, mul_comm (row_len (grid ns)) 0) ∙ ap (λ g. raster g qs) (sym (grid-with_rows rows ns)) in
    omega (arith, ap (block_number ns) same, numbers, at.block_in_array, blocks-with_rows rows ns slab.some_axis)

take-map-upto : (f : ℕ → ℤ) (k n : ℕ) → k ≤ n → take k (map f (upto n)) ≡ map f (upto k)
take-map-upto f k n within =
    let all : n ≡ k + (n - k) = omega arith in
    let prefix = map f (upto k) in
    let behind = map f (count_from (0 + k) (n - k)) in
    ap (λ m. take k (map f (upto m))) all
    ∙ ap (λ ks. take k (map f ks)) (count_from-add 0 k (n - k))
    ∙ ap (take k) (map-append f (upto k) (count_from (0 + k) (n - k)))
    ∙ take_at prefix behind k (length-map (upto k) f ∙ length-upto k)

-- what is joined of blocks that begin with those of the first rows begins with their values
pub prefix_joined : (ns : List ℕ) (rows : ℕ) (values : List ℤ) (found : List (List ℤ)) → IsSlab ns 0 rows → length values ≡ row_len ns * rows
    → ((b : ℕ) → b < first_block ns ((rows + 3) / 4) → get_or found b [] ≡ block_of ns values b) → take (row_len ns * rows) (values_of_blocks ns found) ≡ values
prefix_joined ns rows values found slab long same =
    let n = row_len ns * rows in
    let few : rows ≤ rows_of ns = omega (arith, slab.within) in
    let within : n ≤ product ns = omega (arith, product-rows ns slab.some_axis, mul-le-mul_left (row_len ns) few) in
    let f : ℕ → ℤ = λ k. get_or (get_or found (block_number ns (coordinates ns k)) []) (place_of (coordinates ns k)) (pos 0) in
    take-map-upto f n (product ns) within
    ∙ from_places f n (pos 0) values long
    (λ k lt.
    let ps = coordinates ns k in
    let b = block_number ns ps in
    let p = place_of ps in
    let below : k < product ns = omega (arith, lt, within) in
    let at = IsAt-position ns ps (length-coordinates ns k) (is_inside-coordinates ns k below) in
    sym
    (ap (λ (block : List ℤ). get_or block p (pos 0)) (same b (number_below ns rows k slab lt))
    ∙ value_of_block ns values ps b p at
    ∙ ap (λ i. get_or values i (pos 0)) (raster-coordinates ns k below)))
