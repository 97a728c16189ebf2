-- An array that is restored slab by slab: one slab more, and where it stops.
use Rattle.std.proofs.Common.{rules, ◌≡◌, refl, sym, ap, subst, ◌∙◌, ℕ, ◌+◌, ◌-◌, ◌*◌, ◌/◌, ◌≤◌, inl, inr, ⊎_elim, Bool, false, ℤ, List, [], ◌++◌, length, take, drop, replicate, Option, Ok, Err, mul_comm, append_assoc, length-append, arith}
use Rattle.std.{proofs.lemmas.List.{append-nil, length-map, get_or_append_left}, proofs.Math.Nat.{mul-add}}
use Rattle.zf_spec.{specs.Grid.{grid, blocks, blocks_of}, specs.Stream.{to_bits}}
use Rattle.zf_spec.proofs.Counting.{get_or-map-upto, length-map-upto}
use Rattle.zf_base.specs.Widths.{width_of}
use Rattle.zf_pad.specs.Slabs.{rows_of, row_len, with_rows, IsSlab, first_block}
use Rattle.zf_pad.proofs.Slabs.{product-rows, rows_of-grid, extent_of-slab, blocks-with_rows}
use Rattle.zf_header.specs.declared.header.Header.{Header}
use Rattle.zf_dev.{specs.Source.{IsAtEnd}, specs.Sink.{Appends, AppendsPrefix}}
use Rattle.zf_dev.specs.declared.source.Source.{Ghosts as Source}
use Rattle.zf_dev.proofs.Appending.{Appends-none, Appends-append, AppendsPrefix-all, AppendsPrefix-append, AppendsPrefix-more}
use Rattle.zf_parse.{specs.declared.fault.StreamFault.{StreamFault}, specs.Raw.{raw_bytes}}
use Rattle.zf_parse.specs.Parsing.{read_codes, values_of_blocks, longest_codes}
use Rattle.zf_parse.{proofs.Steps.{codes_answer, blocks_text, values_behind}, proofs.Enough.{enough_for_all}}
use Rattle.zf_parse.proofs.Joining.{with_blocks, with_blocks-both, with_blocks-cut, with_blocks-found, read_codes-then, read_codes-cut_more}
use Rattle.zf_parse.proofs.TextOfParse.{read_codes_more}
use Rattle.zf_parse.specs.declared.fault.StreamFault.TheVariants as faults
use Rattle.zf_stream.{specs.Windows.{Window, left_of}, proofs.RawValues.{raw-append, raw_prefix}}
use Rattle.zf_stream.specs.Restoring.{still, stream_from, ReadsSlab, LacksSlab, blocks_of_rows, Restores, text_of_codes, LeavesRows, Refuses, answer_of_codes}
use Rattle.zf_stream.proofs.Slabwise.{part_of, IsNext}
use Rattle.zf_stream.proofs.SlabsBack.{counted_from, read_codes-slab, count_next, blocks_next, prefix_joined}
use Rattle.zf_stream.proofs.Windows.{Goes-none, Goes-next, to_bits-append}
use Rattle.zf_stream.{specs.Drawing.{DrawsSome}, proofs.Drawing.{Draws-append, DrawsSome-of}}
use Rattle.zf_dev.{proofs.Taking.{Takes-append}, proofs.Giving.{Gives-append}}

-- nothing is to come at the end
pub still_none : (known : Option (List ℕ)) → IsAtEnd known → still known ≡ []
still_none _ ended = search rules

-- ---- the numbers of blocks

-- those of all rows, behind those of the first ones
pub blocks_behind : (ns : List ℕ) (rows : ℕ) → IsSlab ns 0 rows → (n : ℕ) × (blocks ns ≡ first_block ns ((rows + 3) / 4) + n)
blocks_behind ns rows slab =
    let g = grid ns in
    let axes : 1 ≤ length g = omega (arith, length-map ns (λ n. (n + 3) / 4), slab.some_axis) in
    let k = (rows + 3) / 4 in
    let m = rows_of g - k in
    let all : rows_of g ≡ k + m = omega (arith, rows_of-grid ns slab.some_axis, slab.within) in
    (row_len g * m, product-rows g axes ∙ ap (λ r. row_len g * r) all ∙ mul-add (row_len g) k m)

pub all_blocks : (ns : List ℕ) → 1 ≤ length ns → first_block ns ((rows_of ns + 3) / 4) ≡ blocks ns
all_blocks ns some = search (rules, length-map, rows_of-grid, product-rows)

-- ---- the codes of one slab more

module _ (h : Header) (c here : ℕ) (slab : IsSlab h.shape c here) (values : List ℤ) (long : length values ≡ row_len h.shape * (4 * c)) (s t left1 : List Bool)
    (read : read_codes h 0 (first_block h.shape ((4 * c + 3) / 4)) s ≡ Ok (blocks_of_rows h.shape (4 * c) values, left1)) where
  b : ℕ
  b = first_block h.shape c

  prefix : read_codes h 0 (first_block h.shape c) (s ++ t) ≡ Ok (blocks_of_rows h.shape (4 * c) values, left1 ++ t)
  prefix =
      let down : (4 * c + 3) / 4 ≡ c = omega arith in
      ap (λ k. read_codes h 0 (first_block h.shape k) (s ++ t)) (sym down) ∙ read_codes_more h 0 (first_block h.shape ((4 * c + 3) / 4)) s t (blocks_of_rows h.shape (4 * c) values, left1) read

  behind_prefix : (n : ℕ) → read_codes h 0 (first_block h.shape c + n) (s ++ t) ≡ with_blocks (blocks_of_rows h.shape (4 * c) values) (read_codes h (first_block h.shape c) n (left1 ++ t))
  behind_prefix n =
      let place : 0 + first_block h.shape c ≡ first_block h.shape c = omega arith in
      read_codes-then h 0 (first_block h.shape c) n (s ++ t) (blocks_of_rows h.shape (4 * c) values, left1 ++ t) prefix
      ∙ ap (λ k. with_blocks (blocks_of_rows h.shape (4 * c) values) (read_codes h k n (left1 ++ t))) place

  of_slab : read_codes h (first_block h.shape c) (blocks (with_rows here h.shape)) (left1 ++ t) ≡ counted_from (first_block h.shape c) (read_codes (part_of h here) 0 (blocks (with_rows here h.shape)) (left1 ++ t))
  of_slab = search (rules, read_codes-slab, extent_of-slab)

  pub codes_with_slab : (more : List ℤ) (left2 : List Bool) → length more ≡ row_len h.shape * here
      → read_codes (part_of h here) 0 (blocks (with_rows here h.shape)) (left1 ++ t) ≡ Ok (blocks_of (with_rows here h.shape) more, left2)
      → read_codes h 0 (first_block h.shape ((4 * c + here + 3) / 4)) (s ++ t) ≡ Ok (blocks_of_rows h.shape (4 * c + here) (values ++ more), left2)
  codes_with_slab more left2 as_long as_read =
      grind (arith, count_next, behind_prefix, with_blocks, of_slab, counted_from, with_blocks-both, blocks_next)

  -- they end too early
  pub codes_cut : (block : ℕ) → read_codes (part_of h here) 0 (blocks (with_rows here h.shape)) (left1 ++ t) ≡ Err block → read_codes h 0 (blocks h.shape) (s ++ t) ≡ Err (first_block h.shape c + block)
  codes_cut block cut =
      let bs = blocks_of_rows h.shape (4 * c) values in
      let n = blocks (with_rows here h.shape) in
      let whole : IsSlab h.shape 0 (4 * c + here) = record { some_axis = slab.some_axis; within = omega (arith, slab.within); whole = ⊎_elim (λ e. inl (omega (arith, e))) (λ e. inr (omega (arith, e))) slab.whole } in
      let behind = blocks_behind h.shape (4 * c + here) whole in
      let rounded : (4 * c + here + 3) / 4 ≡ c + (here + 3) / 4 = omega arith in
      let count : first_block h.shape ((4 * c + here + 3) / 4) ≡ first_block h.shape c + n =
      ap (λ k. row_len (grid h.shape) * k) rounded ∙ mul-add (row_len (grid h.shape)) c ((here + 3) / 4) ∙ ap (λ k. first_block h.shape c + k) (sym (blocks-with_rows here h.shape slab.some_axis)) in
      let all : blocks h.shape ≡ first_block h.shape c + (n + behind.0) = omega (arith, behind.1, count) in search (rules, behind_prefix, with_blocks, read_codes-cut_more, of_slab, counted_from, with_blocks-cut)

-- ---- the text

-- the values of first rows are in front of it, whatever stands behind their codes
pub text_prefix : (h : Header) (rows : ℕ) (values : List ℤ) (s t left : List Bool) → IsSlab h.shape 0 rows → length values ≡ row_len h.shape * rows
    → read_codes h 0 (first_block h.shape ((rows + 3) / 4)) s ≡ Ok (blocks_of_rows h.shape rows values, left) → (rest : List ℕ) × (raw_bytes h values ++ rest ≡ text_of_codes h (s ++ t))
text_prefix h rows values s t left slab long read =
    let ns = h.shape in
    let n = first_block ns ((rows + 3) / 4) in
    let bs = blocks_of_rows ns rows values in
    let zeros = replicate (longest_codes h) false in
    let all = enough_for_all h (s ++ t) in
    let behind = blocks_behind ns rows slab in
    let prefix : read_codes h 0 n ((s ++ t) ++ zeros) ≡ Ok (bs, left ++ (t ++ zeros)) =
    ap (read_codes h 0 n) (append_assoc s t zeros) ∙ read_codes_more h 0 n s (t ++ zeros) (bs, left) read in
    let whole : with_blocks bs (read_codes h (0 + n) behind.0 (left ++ (t ++ zeros))) ≡ Ok all.all =
    sym (read_codes-then h 0 n behind.0 ((s ++ t) ++ zeros) (bs, left ++ (t ++ zeros)) prefix) ∙ ap (λ k. read_codes h 0 k ((s ++ t) ++ zeros)) (sym behind.1) ∙ all.is in
    let found = with_blocks-found bs (read_codes h (0 + n) behind.0 (left ++ (t ++ zeros))) all.all whole in
    let joined = values_of_blocks ns all.all.0 in
    let size = row_len ns * rows in
    let first : take size joined ≡ values = search (rules, prefix_joined, b, get_or_append_left, length-map-upto, get_or-map-upto) in (
      raw_bytes h (drop size joined),
      ap (λ (vs : List ℤ). raw_bytes h vs ++ raw_bytes h (drop size joined)) (sym first) ∙ sym (raw_prefix (width_of h.ty) size joined) ∙ ap (blocks_text h) (sym all.is),
    )

-- so of these values a prefix is one of the text, whatever follows
prefix_of_rows : (h : Header) (rows : ℕ) (values : List ℤ) (w : Window) (bytes : List ℕ) (left : List Bool) (out0 out : Option (List ℕ)) → IsSlab h.shape 0 rows → length values ≡ row_len h.shape * rows
    → read_codes h 0 (first_block h.shape ((rows + 3) / 4)) (stream_from w bytes) ≡ Ok (blocks_of_rows h.shape rows values, left) → AppendsPrefix out0 out (raw_bytes h values)
    → (rest : List ℕ) → AppendsPrefix out0 out (text_of_codes h (stream_from w (bytes ++ rest)))
prefix_of_rows h rows values w bytes left out0 out slab long read written rest =
    let text = text_prefix h rows values (stream_from w bytes) (to_bits rest) left slab long read in
    let is = text.1 ∙ ap (text_of_codes h) (to_bits-append (left_of w) bytes rest) in
    rw is at (AppendsPrefix-more out0 out (raw_bytes h values) text.0 written)

-- ---- one slab more

module _ (h : Header) (row here : ℕ) (next : IsNext h row here) {A : Type 0} {S : Source A} {src0 mid : A} {out0 out1 : Option (List ℕ)} {w0 w1 : Window} (done : Restores h row S src0 mid out0 out1 w0 w1) where
  long_before : length done.values ≡ row_len h.shape * (4 * (row / 4))
  long_before = done.long ∙ ap (λ r. row_len h.shape * r) (sym next.first)

  codes_before : read_codes h 0 (first_block h.shape ((4 * (row / 4) + 3) / 4)) (stream_from w0 done.bytes) ≡ Ok (blocks_of_rows h.shape (4 * (row / 4)) done.values, left_of w1)
  codes_before = search rules

  more_bytes : (bytes : List ℕ) → stream_from w0 done.bytes ++ to_bits bytes ≡ stream_from w0 (done.bytes ++ bytes)
  more_bytes bytes = to_bits-append (left_of w0) done.bytes bytes

  -- its codes were read
  codes_read : {now : A} {w2 : Window} (values : List ℤ) (slab : ReadsSlab (part_of h here) S mid now w1 w2 values) → length values ≡ row_len h.shape * here
      → read_codes h 0 (first_block h.shape ((row + here + 3) / 4)) (stream_from w0 (done.bytes ++ slab.bytes)) ≡ Ok (blocks_of_rows h.shape (row + here) (done.values ++ values), left_of w2)
  codes_read {now} {w2} values slab as_long =
      let P : ℕ → Type 0 = λ r. read_codes h 0 (first_block h.shape ((r + here + 3) / 4)) (stream_from w0 (done.bytes ++ slab.bytes)) ≡ Ok (blocks_of_rows h.shape (r + here) (done.values ++ values), left_of w2) in
      let of_bytes = codes_with_slab h (row / 4) here next.slab done.values long_before (stream_from w0 done.bytes) (to_bits slab.bytes) (left_of w1) codes_before values (left_of w2) as_long slab.codes in
      subst P next.first (ap (read_codes h 0 (first_block h.shape ((4 * (row / 4) + here + 3) / 4))) (sym (more_bytes slab.bytes)) ∙ of_bytes)

  whole_next : IsSlab h.shape 0 (row + here)
  whole_next = search rules

  long_next : (values : List ℤ) → length values ≡ row_len h.shape * here → length (done.values ++ values) ≡ row_len h.shape * (row + here)
  long_next values as_long = length-append done.values values ∙ omega (arith, done.long, as_long) ∙ sym (mul-add (row_len h.shape) row here)

  -- and its values written
  pub slab_restored : {now : A} {out2 : Option (List ℕ)} {w2 : Window} (values : List ℤ) → ReadsSlab (part_of h here) S mid now w1 w2 values → length values ≡ row_len h.shape * here → Appends out1 out2 (raw_bytes h values)
      → Restores h (row + here) S src0 now out0 out2 w0 w2
  slab_restored {now} {out2} {w2} values slab as_long written =
      let both = Appends-append out0 out1 out2 _ _ done.written written in
      record {
        whole = whole_next;
        bytes = done.bytes ++ slab.bytes;
        goes = Goes-next done.goes slab.goes;
        values = done.values ++ values;
        long = long_next values as_long;
        codes = codes_read values slab as_long;
        written = rw (raw-append (width_of h.ty) done.values values) both;
      }

  -- or a prefix of them
  pub slab_spilled : {now : A} {out2 : Option (List ℕ)} {w2 : Window} (values : List ℤ) → ReadsSlab (part_of h here) S mid now w1 w2 values → length values ≡ row_len h.shape * here → AppendsPrefix out1 out2 (raw_bytes h values)
      → LeavesRows h S src0 now out0 out2 w0
  slab_spilled {now} {out2} {w2} values slab as_long written =
      let all = done.values ++ values in
      let bytes = done.bytes ++ slab.bytes in
      let both = AppendsPrefix-append out0 out1 out2 (raw_bytes h done.values) _ done.written written in
      let joined : AppendsPrefix out0 out2 (raw_bytes h all) = rw (raw-append (width_of h.ty) done.values values) both in
      let drawn = Draws-append done.bytes slab.bytes done.goes.drawn slab.goes.drawn in
      record {
        bytes = bytes;
        more = [];
        taken = rw (append-nil bytes) drawn.taken;
        lost = [];
        given = rw (append-nil bytes) drawn.given;
        written = prefix_of_rows h (row + here) all w0 bytes (left_of w2) out0 out2 whole_next (long_next values as_long) (codes_read values slab as_long) joined;
      }

  -- its codes end too early
  pub slab_cut : (now : A) (first : ℕ) (e : StreamFault) → first ≡ first_block h.shape (row / 4) → LacksSlab (part_of h here) first S mid now w1 e → Refuses h S src0 now w0 e
  slab_cut now first (faults.Truncated number) is cut =
      let bytes = done.bytes ++ cut.bytes in
      let none : still (S.contents now) ≡ [] = still_none (S.contents now) cut.ended.at_end in
      let number_is : first_block h.shape (row / 4) + cut.block ≡ number = omega (arith, is, cut.number_is) in
      let codes : read_codes h 0 (blocks h.shape) (stream_from w0 bytes) ≡ Err number =
      ap (read_codes h 0 (blocks h.shape)) (sym (more_bytes cut.bytes))
      ∙ codes_cut h (row / 4) here next.slab done.values long_before (stream_from w0 done.bytes) (to_bits cut.bytes) (left_of w1) codes_before cut.block cut.codes ∙ ap Err number_is in
      let s = stream_from w0 bytes in
      let answer : answer_of_codes h w0.reader.at s ≡ Err (faults.Truncated number) =
      values_behind h (w0.reader.at + length s) s ∙ ap (codes_answer h (w0.reader.at + length s)) codes in
      let all : bytes ++ still (S.contents now) ≡ bytes = ap (λ (bs : List ℕ). bytes ++ bs) none ∙ append-nil bytes in
      inl (record {
        bytes = bytes;
        drawn = Draws-append done.bytes cut.bytes done.goes.drawn cut.drawn;
        answer = answer;
        answer_of_all = ap (λ (bs : List ℕ). answer_of_codes h w0.reader.at (stream_from w0 bs)) all ∙ answer;
      })
  slab_cut now first faults.Read is lacks = inr (inl refl)
  slab_cut now first e is lacks = absurd lacks

module _ {A : Type 0} {S : Source A} where
  -- some bytes were drawn
  pub some_lacked : (part : Header) (first : ℕ) (src now : A) (w : Window) (e : StreamFault) → LacksSlab part first S src now w e → DrawsSome S src now
  some_lacked part first src now w (faults.Truncated number) cut = DrawsSome-of cut.bytes cut.drawn
  some_lacked part first src now w faults.Read some = some
  some_lacked part first src now w e lacks = absurd lacks

  -- where the work stopped
  pub rows_left : (h : Header) (row : ℕ) {src0 mid now : A} {out0 out1 : Option (List ℕ)} {w0 w1 : Window} → Restores h row S src0 mid out0 out1 w0 w1 → DrawsSome S mid now → LeavesRows h S src0 now out0 out1 w0
  rows_left h row {src0} {mid} {now} {out0} {out1} {w0} {w1} done some =
      let all = AppendsPrefix-all out0 out1 (raw_bytes h done.values) done.written in
      record {
        bytes = done.bytes;
        more = some.taken.0;
        taken = Takes-append _ _ _ done.bytes some.taken.0 done.goes.drawn.taken some.taken.1;
        lost = some.given.0;
        given = Gives-append done.bytes some.given.0 done.goes.drawn.given some.given.1;
        written = prefix_of_rows h row done.values w0 done.bytes (left_of w1) out0 out1 done.whole done.long done.codes all;
      }

  pub slab_lacked : (h : Header) (row : ℕ) {src0 mid now : A} {out0 out1 : Option (List ℕ)} {w0 w1 : Window} → Restores h row S src0 mid out0 out1 w0 w1 → (part : Header) (first : ℕ) (e : StreamFault) → LacksSlab part first S mid now w1 e
      → LeavesRows h S src0 now out0 out1 w0
  slab_lacked h row {src0} {mid} {now} {out0} {out1} {w0} {w1} done part first e lacks = rows_left h row done (some_lacked part first mid now w1 e lacks)

-- ---- the start, where no row is restored

pub Restores-none : {A : Type 0} {S : Source A} (h : Header) (src : A) (out : Option (List ℕ)) (w : Window) → 1 ≤ length h.shape → Restores h 0 S src src out out w w
Restores-none {A} {S} h src out w some =
    let none : first_block h.shape ((0 + 3) / 4) ≡ 0 = omega (arith, mul_comm (row_len (grid h.shape)) 0) in
    record {
      whole = record { some_axis = some; within = omega arith; whole = inl refl };
      bytes = [];
      goes = Goes-none src w;
      values = [];
      long = omega (arith, mul_comm (row_len h.shape) 0);
      codes = search (rules, append-nil);
      written = Appends-none out;
    }
