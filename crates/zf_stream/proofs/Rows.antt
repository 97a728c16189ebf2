-- The codes of an array, row by row.
use Rattle.std.proofs.Common.{rules, ◌≡◌, sym, ap, ◌∙◌, ℕ, ◌+◌, ◌-◌, ◌*◌, ◌/◌, ◌<◌, ◌≤◌, inl, Bool, ℤ, List, [], ◌++◌, map, length, take, drop, take_at, drop_at, arith}
use Rattle.std.proofs.lemmas.List.{append-nil, length-map, get_or-map}
use Rattle.std.{proofs.Math.Nat.{mul-add}, specs.List.{flat_map}}
use Rattle.zf_spec.specs.Grid.{product, blocks, upto, count_from, extent_of, block_of}
use Rattle.zf_spec.{specs.Stream.{values_from, block_code, codes}, proofs.RawValues.{length-values_from}}
use Rattle.zf_spec.proofs.Counting.{map-upto_same, from_places, length-count_from, get_or-count_from}
use Rattle.zf_base.specs.Widths.{width_of}
use Rattle.zf_pad.specs.Slabs.{rows_of, row_len, with_rows, IsSlab, slab_of, first_block}
use Rattle.zf_pad.proofs.Slabs.{product-rows, rows_of-grid, blocks-with_rows, extent_of-slab, block_of-slab}
use Rattle.zf_header.{specs.declared.header.Header.{Header}, specs.HeaderBits.{coding}}
use Rattle.zf_stream.specs.Rows.{rows_len, code_of_block, codes_of_rows}
use Rattle.zf_pad.proofs.RawValues.{values_from-append}
use Rattle.zf_parse.proofs.Codes.{joined-prefix}

-- the values of a slab are those of its bytes
pub slab_of-bytes : (h : Header) (c rows : ℕ) (before raw more : List ℕ) → IsSlab h.shape c rows → length before ≡ rows_len h (4 * c) → length raw ≡ rows_len h rows
    → slab_of h.shape (values_from (width_of h.ty) (product h.shape) (before ++ (raw ++ more))) c rows ≡ values_from (width_of h.ty) (row_len h.shape * rows) raw
slab_of-bytes h c rows before raw more slab long as_long =
    let w = width_of h.ty in
    let ns = h.shape in
    let r = row_len ns in
    let a = r * (4 * c) in
    let n = r * rows in
    let rest = rows_of ns - (4 * c + rows) in
    let m = r * rest in
    let all : rows_of ns ≡ 4 * c + (rows + rest) = omega (arith, slab.within) in
    let count : product ns ≡ a + (n + m) = product-rows ns slab.some_axis ∙ ap (λ k. r * k) all ∙ mul-add r (4 * c) (rows + rest) ∙ ap (λ k. a + k) (mul-add r rows rest) in
    let first = values_from w a before in
    let here = values_from w n raw in
    let last = values_from w m more in
    let parts : values_from w (product ns) (before ++ (raw ++ more)) ≡ first ++ (here ++ last) = search (rules, values_from-append) in
    ap (λ (vs : List ℤ). take n (drop a vs)) parts ∙ ap (take n) (drop_at first (here ++ last) a (length-values_from w a before)) ∙ take_at here last n (length-values_from w n raw)

-- ---- the codes of first rows

-- the code of a block of a slab
pub code_in_slab : (h : Header) (c rows j : ℕ) (before raw more : List ℕ) → IsSlab h.shape c rows → length before ≡ rows_len h (4 * c) → length raw ≡ rows_len h rows → j < blocks (with_rows rows h.shape)
    → code_of_block h (before ++ (raw ++ more)) (first_block h.shape c + j)
    ≡ block_code (width_of h.ty) (coding h.mode) (extent_of (with_rows rows h.shape) j) (block_of (with_rows rows h.shape) (values_from (width_of h.ty) (row_len h.shape * rows) raw) j)
code_in_slab h c rows j before raw more slab long as_long lt =
    let w = width_of h.ty in
    let m = coding h.mode in
    let values = values_from w (product h.shape) (before ++ (raw ++ more)) in
    ap (λ es. block_code w m es (block_of h.shape values (first_block h.shape c + j))) (extent_of-slab h.shape c rows slab j lt)
    ∙ ap (block_code w m (extent_of (with_rows rows h.shape) j))
    (block_of-slab h.shape c rows slab j lt values ∙ ap (λ (vs : List ℤ). block_of (with_rows rows h.shape) vs j) (slab_of-bytes h c rows before raw more slab long as_long))

-- a code of the first rows depends on their bytes alone
code_more : (h : Header) (rows b : ℕ) (bytes more : List ℕ) → IsSlab h.shape 0 rows → length bytes ≡ rows_len h rows → b < first_block h.shape ((rows + 3) / 4)
    → code_of_block h (bytes ++ more) b ≡ code_of_block h bytes b
code_more h rows b bytes more slab long lt =
    let below : b < blocks (with_rows rows h.shape) = omega (arith, blocks-with_rows rows h.shape slab.some_axis) in
    let none : 0 ≡ rows_len h (4 * 0) = omega arith in
    let place : first_block h.shape 0 + b ≡ b = omega arith in
    ap (code_of_block h (bytes ++ more)) (sym place) ∙ code_in_slab h 0 rows b [] bytes more slab none long below
    ∙ sym (code_in_slab h 0 rows b [] bytes [] slab none long below) ∙ ap (code_of_block h (bytes ++ [])) place ∙ ap (λ bs. code_of_block h bs b) (append-nil bytes)

pub codes_of_rows-more : (h : Header) (rows : ℕ) (bytes more : List ℕ) → IsSlab h.shape 0 rows → length bytes ≡ rows_len h rows → codes_of_rows h rows (bytes ++ more) ≡ codes_of_rows h rows bytes
codes_of_rows-more h rows bytes more slab long =
    ap (λ (cs : List (List Bool)). flat_map (λ c. c) cs)
    (map-upto_same (code_of_block h (bytes ++ more)) (code_of_block h bytes) (first_block h.shape ((rows + 3) / 4)) (λ b lt. code_more h rows b bytes more slab long lt))

pub map-count_from : {X : Type 0} (f : ℕ → X) (k n : ℕ) → map f (count_from k n) ≡ map (λ j. f (k + j)) (upto n)
map-count_from f k n =
    let long = length-count_from k n in
    sym (from_places (λ j. f (k + j)) n (f 0) (map f (count_from k n)) (length-map (count_from k n) f ∙ long)
    (λ j lt. get_or-map f (count_from k n) j 0 (f 0) (omega arith) ∙ ap f (get_or-count_from k n j 0 lt)))

-- with the codes of one slab more
pub codes_of_rows-next : (h : Header) (c rows : ℕ) (bytes raw : List ℕ) → IsSlab h.shape c rows → length bytes ≡ rows_len h (4 * c) → length raw ≡ rows_len h rows
    → codes_of_rows h (4 * c + rows) (bytes ++ raw)
    ≡ codes_of_rows h (4 * c) bytes ++ flat_map (λ c. c) (codes (width_of h.ty) (with_rows rows h.shape) (coding h.mode) (values_from (width_of h.ty) (row_len h.shape * rows) raw))
codes_of_rows-next h c rows bytes raw slab long as_long =
    let w = width_of h.ty in
    let b = first_block h.shape c in
    let n = blocks (with_rows rows h.shape) in
    let f = code_of_block h (bytes ++ raw) in
    let joined : List (List Bool) → List Bool = λ cs. flat_map (λ c. c) cs in
    let down : (4 * c + 3) / 4 ≡ c = omega arith in
    let count : first_block h.shape ((4 * c + rows + 3) / 4) ≡ b + n = grind (arith, mul-add, blocks-with_rows) in
    let prefix : IsSlab h.shape 0 (4 * c) = record { some_axis = slab.some_axis; within = omega (arith, slab.within); whole = inl (omega arith) } in
    ap (λ k. joined (map f (upto k))) count ∙ joined-prefix f b n
    ∙ ap (λ (bs : List Bool). bs ++ joined (map f (count_from b n)))
    (ap (λ k. joined (map f (upto (first_block h.shape k)))) (sym down) ∙ codes_of_rows-more h (4 * c) bytes raw prefix long)
    ∙ ap (λ (bs : List Bool). codes_of_rows h (4 * c) bytes ++ bs)
    (ap joined
    (map-count_from f b n
    ∙ map-upto_same (λ j. f (b + j)) (λ j. block_code w (coding h.mode) (extent_of (with_rows rows h.shape) j) (block_of (with_rows rows h.shape) (values_from w (row_len h.shape * rows) raw) j)) n
    (λ j lt. ap (λ (bs : List ℕ). code_of_block h (bytes ++ bs) (b + j)) (sym (append-nil raw)) ∙ code_in_slab h c rows j bytes raw [] slab long as_long lt)))

-- those of all rows are the codes of the array
pub codes_of_all_rows : (h : Header) (bytes : List ℕ) → 1 ≤ length h.shape
    → codes_of_rows h (rows_of h.shape) bytes ≡ flat_map (λ c. c) (codes (width_of h.ty) h.shape (coding h.mode) (values_from (width_of h.ty) (product h.shape) bytes))
codes_of_all_rows h bytes some = search (rules, length-map, rows_of-grid, product-rows)
