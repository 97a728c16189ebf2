-- An array that is compressed slab by slab: one slab more, and where it stops.
use Rattle.std.proofs.Common.{rules, ◌≡◌, refl, sym, ap, ◌∙◌, ℕ, ◌+◌, ◌-◌, ◌*◌, ◌/◌, ◌%◌, ◌<◌, ◌≤◌, ◌^◌, ◌⊎◌, inl, inr, ⊎_elim, min, Bool, List, [], ◌++◌, length, map, mul_comm, Option, append_assoc, length-append, arith}
use Rattle.std.{proofs.lemmas.Bool.{cases_lt}, proofs.lemmas.List.{append-nil}, specs.Int.{byte_len}}
use Rattle.std.{proofs.Math.Nat.{add-mul, mul-add, mul-le-mul_left, mul-le-mul_right}, specs.List.{flat_map}}
use Rattle.zf_spec.specs.Grid.{IsShape, product, grid, upto}
use Rattle.zf_base.specs.Widths.{width_of}
use Rattle.zf_pad.specs.Slabs.{rows_of, row_len, with_rows, IsSlab, first_block}
use Rattle.zf_pad.proofs.Slabs.{all_rows, product-with_rows, product-rows}
use Rattle.zf_header.specs.declared.header.Header.{Header}
use Rattle.zf_dev.{specs.Source.{Takes, Gives, GivesSome}, proofs.Taking.{Takes-append}}
use Rattle.zf_dev.proofs.Giving.{Gives-none, Gives-append}
use Rattle.zf_parse.{specs.declared.fault.StreamFault.{StreamFault}, specs.Parsing.{longest_code}}
use Rattle.zf_parse.specs.Raw.{raw_len, compress_answer}
use mir.Val.{bits}
use Rattle.zf_stream.{specs.Outcomes.{RefusesRaw}, specs.Flows.{Flows, Spills}}
use Rattle.zf_stream.specs.Rows.{rows_len, code_of_block, codes_of_rows, ArePieces, Compresses, Stops, slab_codes, WritesSlab, BreaksSlab}
use Rattle.zf_stream.proofs.Flowing.{Flows-more, Flows-next, Flows-spill, Spills-flows}
use Rattle.zf_stream.proofs.Rows.{codes_of_rows-next}
use Rattle.zf_stream.proofs.RawRows.{some_taken, raw_refused, write_refused}

-- the rows of an array as an array of their own
abbrev pub with_shape : Header → List ℕ → Header
with_shape h shape = record { ty = h.ty; shape = shape; mode = h.mode }

abbrev pub part_of : Header → ℕ → Header
part_of h rows = with_shape h (with_rows rows h.shape)

pub rows_len-part : (h : Header) (rows : ℕ) → 1 ≤ length h.shape → product (with_rows rows h.shape) * byte_len (width_of h.ty) ≡ rows_len h rows
rows_len-part h rows some = ap (λ n. n * byte_len (width_of h.ty)) (product-with_rows rows h.shape some)

pub rows_len-add : (h : Header) (a b : ℕ) → rows_len h (a + b) ≡ rows_len h a + rows_len h b
rows_len-add h a b = ap (λ n. n * byte_len (width_of h.ty)) (mul-add (row_len h.shape) a b) ∙ add-mul (row_len h.shape * a) (row_len h.shape * b) (byte_len (width_of h.ty))

pub rows_len-all : (h : Header) → 1 ≤ length h.shape → rows_len h (rows_of h.shape) ≡ raw_len h
rows_len-all h some = ap (λ n. n * byte_len (width_of h.ty)) (sym (product-rows h.shape some)) ∙ omega arith

pub rows_len-le : (h : Header) (a b : ℕ) → a ≤ b → rows_len h a ≤ rows_len h b
rows_len-le h a b le = mul-le-mul_right (byte_len (width_of h.ty)) (mul-le-mul_left (row_len h.shape) le)

-- so many rows, or all
whole_rows : (rows most all n : ℕ) → rows ≡ min most all → all ≡ n → most % 4 ≡ 0 → (rows % 4 ≡ 0) ⊎ (rows ≡ n)
whole_rows rows most all n is same fours = ⊎_elim (λ lt. inl (omega arith)) (λ le. inr (omega arith)) (cases_lt most all)

-- the most rows of a slab, or all where there are fewer, are pieces of the array
pub are_pieces : (ns : List ℕ) (rows most all : ℕ) → IsShape ns → rows ≡ min most all → all ≡ rows_of ns → 4 ≤ most → most % 4 ≡ 0 → ArePieces ns rows
are_pieces ns rows most all shape is same some fours = search (rules, all_rows, whole_rows)

-- the next slab: its first row is a multiple of 4
pub record IsNext (h : Header) (row here : ℕ) : Type 0 where
  pub first : 4 * (row / 4) ≡ row
  pub slab : IsSlab h.shape (row / 4) here

next_slab : (h : Header) (rows row : ℕ) → ArePieces h.shape rows → IsSlab h.shape 0 row → row < rows_of h.shape → (here : ℕ) → (here ≡ rows) ⊎ (here ≡ rows_of h.shape - row) → here ≤ rows → here ≤ rows_of h.shape - row → IsNext h row here
next_slab h rows row pieces whole more here least few within = search (rules, least)

-- the smaller of two numbers is one of them
least : (here rows all row n : ℕ) → here ≡ min rows (all - row) → all ≡ n → (here ≡ rows) ⊎ (here ≡ n - row)
least here rows all row n is same = ⊎_elim (λ lt. inl (omega arith)) (λ le. inr (omega arith)) (cases_lt rows (all - row))

pub next_here : (h : Header) (rows row all here : ℕ) → ArePieces h.shape rows → IsSlab h.shape 0 row → all ≡ rows_of h.shape → row < all → here ≡ min rows (all - row) → IsNext h row here
next_here h rows row all here pieces whole all_is more is =
    next_slab h rows row pieces whole (omega (arith, all_is, more)) here (least here rows all row (rows_of h.shape) is all_is) (omega (arith, is)) (omega (arith, is, all_is))

module _ (h : Header) (row here : ℕ) (next : IsNext h row here) (whole : IsSlab h.shape 0 row) where
  pub next_whole : IsSlab h.shape 0 (row + here)
  next_whole = search rules

  -- the codes of one slab more
  codes_next : (bytes raw : List ℕ) → length bytes ≡ rows_len h row → length raw ≡ rows_len h here
      → codes_of_rows h (row + here) (bytes ++ raw) ≡ codes_of_rows h row bytes ++ slab_codes (part_of h here) raw
  codes_next bytes raw long as_long = search (rules, product-with_rows, codes_of_rows-next)

  within_all : (bytes : List ℕ) → length bytes ≡ rows_len h row → length bytes + product (with_rows here h.shape) * byte_len (width_of h.ty) ≤ raw_len h
  within_all bytes long =
      omega (
        arith,
        long,
        rows_len-part h here whole.some_axis,
        rows_len-add h row here,
        rows_len-le h (row + here) (rows_of h.shape) (omega (arith, next.first, next.slab.within)),
        rows_len-all h whole.some_axis,
      )

  module _ {src0 mid now out0 out1 out2 : Option (List ℕ)} {a b c : List ℕ → Type 0} {bits left : List Bool} (done : Compresses h row src0 mid (Gives a b) out0 out1 bits left) where
    -- one slab more was written
    pub slab_written : {last : List Bool} → WritesSlab (part_of h here) mid now (Gives b c) out1 out2 left last → Compresses h (row + here) src0 now (Gives a c) out0 out2 bits last
    slab_written {last} slab =
        let as_long = slab.long ∙ rows_len-part h here whole.some_axis in
        let taken = Takes-append src0 mid now done.bytes slab.raw done.taken slab.taken in
        let given = Gives-append done.bytes slab.raw done.given slab.given in
        let flows = Flows-next (Flows-more (slab_codes (part_of h here) slab.raw) done.flows) slab.flows in
        let all : Flows out0 out2 (bits ++ codes_of_rows h (row + here) (done.bytes ++ slab.raw)) last =
        rw (codes_next done.bytes slab.raw done.long as_long) (rw append_assoc at flows) in
        search (rules, next_whole, length-append, rows_len-add)

    -- or it was not
    pub slab_broken : (before : ℕ) (e : StreamFault) → GivesSome b c → BreaksSlab (part_of h here) before mid now (Gives b c) out1 out2 left e → Stops h src0 now (Gives a c) out0 out2 bits
    slab_broken before e more broken =
        ⊎_elim
        (λ lacks.
        let some = some_taken before (product (with_rows here h.shape) * byte_len (width_of h.ty)) mid now e lacks.0 in
        let spills : Spills out0 out2 (bits ++ codes_of_rows h row done.bytes) = rw lacks.1 (Spills-flows done.flows) in
        let taken = Takes-append src0 mid now done.bytes some.0 done.taken some.1 in
        let given = Gives-append done.bytes more.0 done.given more.1 in
        search rules)
        (λ failed.
        let slab = failed.1 in
        let as_long = slab.long ∙ rows_len-part h here whole.some_axis in
        let all = done.bytes ++ slab.raw in
        let spills = Flows-spill (Flows-more (slab_codes (part_of h here) slab.raw) done.flows) slab.spills in
        record {
          rows = row + here;
          whole = next_whole;
          bytes = all;
          more = [];
          taken = rw (append-nil all) (Takes-append src0 mid now done.bytes slab.raw done.taken slab.taken);
          lost = [];
          given = rw (append-nil all) (Gives-append done.bytes slab.raw done.given slab.given);
          long = search (rules, length-append, rows_len-add);
          spills = rw (codes_next done.bytes slab.raw done.long as_long) (rw append_assoc at spills);
        })
        broken

    pub slab_refused : (before : ℕ) (e : StreamFault) → before ≡ rows_len h row → BreaksSlab (part_of h here) before mid now (Gives b c) out1 out2 left e → RefusesRaw (compress_answer h) (raw_len h) src0 now e
    slab_refused before e is broken =
        ⊎_elim
        (λ lacks. raw_refused h src0 mid now done.bytes done.taken _ (within_all done.bytes done.long) e lacks.0)
        (λ failed. write_refused h src0 now e failed.0)
        (rw (is ∙ sym done.long) at broken)

-- ---- the sizes of a slab

-- the raw values of an array are not so many
raw_small : (h : Header) (len row : ℕ) → 1 ≤ length h.shape → row ≤ rows_of h.shape → product h.shape ≤ 2 ^ 27 → len ≤ 8 → len ≡ byte_len (width_of h.ty) → rows_len h row ≤ 2 ^ 30
raw_small h len row some within few narrow is = grind (arith, rows_len-le, product-rows, mul-le-mul_right)

-- the slab that comes next, and its sizes
pub record NextSlab (h : Header) (rows row here count len : ℕ) (shape : List ℕ) : Type 0 where
  pub next : IsNext h row here
  pub bytes_are : count * len ≡ product shape * byte_len (width_of h.ty)
  pub bytes_len : count * len ≡ rows_len h here
  pub values : count ≤ row_len h.shape * rows
  pub small : rows_len h (row + here) ≤ 2 ^ 30

pub slab_next : (h : Header) (rows row all here count len : ℕ) (shape : List ℕ) → IsShape h.shape → ArePieces h.shape rows → IsSlab h.shape 0 row → all ≡ rows_of h.shape → row < all → here ≡ min rows (all - row)
    → shape ≡ with_rows here h.shape → count ≡ product shape → len ≡ byte_len (width_of h.ty) → len ≤ 8 → NextSlab h rows row here count len shape
slab_next h rows row all here count len shape is_shape pieces whole all_is more is shape_is count_is len_is narrow = search (rules, product-with_rows, next_here, mul-le-mul_left, raw_small)

-- ---- the start, where no row is read

pub zero_rows : (h : Header) → 0 ≡ rows_len h 0
zero_rows h = omega (arith, mul_comm (row_len h.shape) 0)

pub no_rows : (h : Header) (bits : List Bool) {src out : Option (List ℕ)} (known : List ℕ → Type 0) → 1 ≤ length h.shape → Takes src src [] → Flows out out bits bits → Compresses h 0 src src (Gives known known) out out bits bits
no_rows h bits {src} {out} known some taken flows = search (rules, zero_rows, append-nil)

pub Stops-none : (h : Header) (bits : List Bool) {src out0 out : Option (List ℕ)} (known : List ℕ → Type 0) → 1 ≤ length h.shape → Takes src src [] → Spills out0 out bits → Stops h src src (Gives known known) out0 out bits
Stops-none h bits {src} {out0} {out} known some taken spills =
    let none : first_block h.shape ((0 + 3) / 4) ≡ 0 = omega (arith, mul_comm (row_len (grid h.shape)) 0) in
    let codes : codes_of_rows h 0 [] ≡ [] = ap (λ n. flat_map (λ c. c) (map (code_of_block h []) (upto n))) none in
    let whole : IsSlab h.shape 0 0 = record { some_axis = some; within = omega arith; whole = inl refl } in
    let given = Gives-none known in
    let all : Spills out0 out (bits ++ codes_of_rows h 0 []) = rw codes (rw (append-nil bits) spills) in
    search (rules, zero_rows)

-- the longest code depends on the number of axes alone
pub longest_part : (h : Header) (shape : List ℕ) → length shape ≡ length h.shape → longest_code (with_shape h shape) ≡ longest_code h
longest_part h shape same = search rules
