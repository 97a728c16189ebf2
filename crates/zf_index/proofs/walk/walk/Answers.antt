use Rattle.std.proofs.Common.{◌≡◌, sym, ap, subst, ◌∙◌, inl, ℕ, ◌+◌, ◌-◌, ◌*◌, ◌%◌, ◌<◌, ◌≤◌, Bool, List, [], ◌∷◌, ◌++◌, Some, None, Ok, Err, length, take, drop, length-append, arith}
use Rattle.std.{specs.Int.{Width}, proofs.lemmas.List.{take_at}, proofs.lemmas.Result.{err_from_is_err_and}}
use Rattle.zf_spec.{specs.Grid.{blocks, extent_of}, specs.Stream.{to_bits}, proofs.Bytes.{length-to_bits}}
use Rattle.zf_base.{specs.Widths.{width_of}, proofs.Extents.{length-extent_of}}
use Rattle.zf_bits.specs.Reader.{Reader, rest}
use Rattle.zf_header.specs.declared.header.Header.{Header}
use Rattle.zf_parse.{specs.Parsing.{read_code, fill_answer}, proofs.Excerpts.{cut_told}}
use Rattle.zf_index.{specs.declared.fault.IndexFault.{IndexFault}, specs.Spans.{Index, place}}
use Rattle.zf_index.specs.declared.fault.IndexFault.TheVariants.{Truncated}
use Rattle.zf_index.{specs.Files.{len_read, AreRead, stream_fault}, specs.Walks.{IsWalked, HasFault, HasCode}}
use Rattle.zf_index.proofs.Places.{place-next, place-push, len-last}
use Rattle.zf_index.proofs.Read.{cut_behind, judged_behind, code_seen, one_more, fill_seen}
use Rattle.zf_index.proofs.walk.walk.Given as given
use Rattle.zf_index.proofs.walk.walk.Goals as goal

-- what is left from the place of the next code on
rest_at : (s : List Bool) (at p : ℕ) → at ≡ p → drop at s ≡ drop p s
rest_at s at p same = ap (λ k. drop k s) same

pub returns-in_default-clause-fault : goal.returns-in_default-clause-fault
returns-in_default-clause-fault g c =
    let h = c.args.h.now in
    let s = to_bits c.args.file.now in
    let so_far = c.loop-b.invariant in
    let i : Index = record { start = c.args.start; lens = c.loop-b.lens.items } in
    let n = length i.lens in
    let es = extent_of h.shape n in
    let dims = length-extent_of h.shape n in
    let at = c.loop-b.at in
    let m = 64 * c.loop-b.excerpt.room - at % 64 in
    let lt : n < blocks h.shape = omega (arith, so_far.count, c.loop-b-test.true, c.blocks-b-end.ensures.value) in
    let left : rest c.reader.result ≡ take m (drop at s) = ap rest c.reader.ensures ∙ c.take.ensures.bits in
    let none : read_code (width_of h.ty) h.mode es (drop (place i n) s) ≡ None =
    ap (read_code (width_of h.ty) h.mode es) (sym (rest_at s at (place i n) so_far.at))
    ∙ sym (cut_told h es (drop at s) m dims (omega (arith, so_far.room)))
    ∙ ap (read_code (width_of h.ty) h.mode es) (sym left)
    ∙ ap (λ w. read_code w h.mode es (rest c.reader.result)) (sym c.requires.same_type) ∙ c.in_default.ensures.none.code es dims in
    inl (cut_behind h i s so_far.read lt none (length s) ∙ ap (λ (k : ℕ). Err (stream_fault (Truncated k))) so_far.count)

-- the code that comes next was seen, and ends within the file
next_code : (g : given.Over) (c : goal.After-from-at g) → let h = c.args.h.now in let s = to_bits c.args.file.now in
    (len_read (read_code (width_of h.ty) h.mode (extent_of h.shape (length c.loop-b.lens.items)) (drop c.loop-b.at s)) ≡ Some c.in-Some.len) × (c.loop-b.at + c.in-Some.len ≤ length s)
next_code g c =
    let h = c.args.h.now in
    let s = to_bits c.args.file.now in
    let so_far = c.loop-b.invariant in
    let n = length c.loop-b.lens.items in
    let at = c.loop-b.at in
    let m = 64 * c.loop-b.excerpt.room - at % 64 in
    let t = rest c.reader.result in
    let left : t ≡ take m (drop at s) = ap rest c.reader.ensures ∙ c.take.ensures.bits in
    let Has : Width → Type 0 = λ w. HasCode w h.mode (length h.shape) t c.in-Some.len in
    code_seen h s t at m c.in-Some.len (extent_of h.shape n) (length-extent_of h.shape n) (omega (arith, so_far.room))
    (omega (arith, so_far.within, length-to_bits c.args.file.now)) left (subst Has c.requires.same_type c.in-Some.ensures.some)

pub overflow_add-at : goal.overflow_add-at
overflow_add-at g c = omega (arith, (next_code g c).1, length-to_bits c.args.file.now, c.requires.small, c.from-at.ensures)

pub loop-b-preserved : goal.loop-b-preserved
loop-b-preserved g c =
    let h = c.args.h.now in
    let start = c.args.start in
    let s = to_bits c.args.file.now in
    let so_far = c.loop-b.invariant in
    let xs = c.loop-b.lens.items in
    let ys = c.push.new.self.items in
    let k = c.in-Some.len in
    let i : Index = record { start = start; lens = xs } in
    let j : Index = record { start = start; lens = xs ++ k ∷ [] } in
    let n = length xs in
    let code = next_code g c in
    let is : ys ≡ xs ++ k ∷ [] = c.in-Ok.ensures.items in
    let size : length ys ≡ n + 1 = ap length is ∙ length-append xs (k ∷ []) in
    let read : len_read (read_code (width_of h.ty) h.mode (extent_of h.shape n) (drop (place i n) s)) ≡ Some k =
    ap (λ (t : List Bool). len_read (read_code (width_of h.ty) h.mode (extent_of h.shape n) t)) (sym (rest_at s c.loop-b.at (place i n) so_far.at)) ∙ code.0 in
    let at : c.loop-b.at + c.from-at.result ≡ place j (n + 1) =
    omega (arith, c.from-at.ensures, so_far.at, place-next j n, place-push start xs k n (omega arith), len-last start xs k) in
    let Is : List ℕ → Type 0 = λ zs. AreRead h (record { start = start; lens = zs }) s in
    record {
      count = size ∙ ap (λ m. m + 1) so_far.count;
      at = at ∙ ap (place j) (sym size) ∙ ap (λ (zs : List ℕ). place (record { start = start; lens = zs }) (length ys)) (sym is);
      within = omega (arith, code.1, length-to_bits c.args.file.now, c.from-at.ensures);
      read = subst Is (sym is) (one_more h s start xs k so_far.read read);
      whole = ap length (take_at c.pass_code.new.block (drop (length c.pass_code.new.block) c.loop-b.block.items) c.loop-b.block.len (c.pass_code.ensures.whole ∙ sym so_far.whole ∙ sym c.loop-b.block.ok.0)) ∙ c.pass_code.ensures.whole;
      room = omega (arith, so_far.room, c.take.ensures.room);
    }

-- all codes were seen
module _ (h : Header) (file lens : List ℕ) (start b at room : ℕ) (r : Reader) (count : length lens ≡ b) (all : b ≡ blocks h.shape) (at_is : at ≡ place (record { start = start; lens = lens }) (length lens)) (within : at ≤ 8 * length file)
    (read : AreRead h (record { start = start; lens = lens }) (to_bits file)) (enough : 128 ≤ 64 * room) (stands : r.at ≡ at % 64) (left : rest r ≡ take (64 * room - at % 64) (drop at (to_bits file))) where
  abbrev i : Index
  i = record { start = start; lens = lens }

  count_is : length i.lens ≡ blocks h.shape
  count_is = count ∙ all

  inside : place i (length i.lens) ≤ length (to_bits file)
  inside = omega (arith, at_is, within, length-to_bits file)

  seen : fill_answer h r.at (rest r) ≡ fill_answer h (place i (length i.lens)) (drop (place i (length i.lens)) (to_bits file))
  seen =
      fill_seen h i (to_bits file) read count_is inside r (64 * room - at % 64) (stands ∙ ap (λ k. k % 64) at_is)
      (left ∙ ap (λ k. take (64 * room - at % 64) (drop k (to_bits file))) at_is) (omega (arith, enough))

  walked : fill_answer h r.at (rest r) ≡ Ok tt → IsWalked h (to_bits file) i
  walked good = record { count = count_is; read = read; within = inside; fill = sym seen ∙ good }

  faulty : (e : IndexFault) → fill_answer h r.at (rest r) ≡ Err (stream_fault e) → HasFault h (record { all = to_bits file; at = start }) e
  faulty e bad = inl (judged_behind h i (to_bits file) read count_is inside (stream_fault e) (sym seen ∙ bad))

pub returns-clause-ok : goal.returns-clause-ok
returns-clause-ok g c =
    let so_far = c.loop-b.invariant in
    walked c.args.h.now c.args.file.now c.loop-b.lens.items c.args.start c.loop-b.b c.loop-b.at c.loop-b.excerpt.room c.reader-2.result so_far.count
    (omega (arith, c.loop-b-test.false, c.loop-b.auto.b-end, c.blocks-b-end.ensures.value)) so_far.at so_far.within so_far.read (omega (arith, so_far.room))
    (ap (λ (x : Reader). x.at) c.reader-2.ensures ∙ c.take-2.ensures.place) (ap rest c.reader-2.ensures ∙ c.take-2.ensures.bits)
    c.in_ok-check_fill.ensures.ok

pub returns-in_err-check_fill-clause-fault : goal.returns-in_err-check_fill-clause-fault
returns-in_err-check_fill-clause-fault g c =
    let so_far = c.loop-b.invariant in
    let p = err_from_is_err_and c.from_residual-in_err-check_fill.result c.from_residual-in_err-check_fill.ensures.1 in
    rw (p.1, p.2)
    (faulty c.args.h.now c.args.file.now c.loop-b.lens.items c.args.start c.loop-b.b c.loop-b.at c.loop-b.excerpt.room c.reader-2.result so_far.count
    (omega (arith, c.loop-b-test.false, c.loop-b.auto.b-end, c.blocks-b-end.ensures.value)) so_far.at so_far.within so_far.read (omega (arith, so_far.room))
    (ap (λ (x : Reader). x.at) c.reader-2.ensures ∙ c.take-2.ensures.place) (ap rest c.reader-2.ensures ∙ c.take-2.ensures.bits)
    _ c.in_err-check_fill.ensures.err)
