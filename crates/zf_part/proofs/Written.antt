-- What a stream of a rate says once a code is put anew.
use Rattle.std.proofs.Common.{◌≡◌, ◌≢◌, refl, sym, ap, subst, ◌∙◌, ℕ, ◌+◌, ◌<◌, ◌≤◌, Bool, ℤ, pos, Some, Result, Ok, Err, List, [], ◌++◌, map, length, get_or, set, ext_get_or, take, drop, append_assoc, length-append, length-drop, ◌⊎◌, inl, inr, arith, rules}
use Rattle.std.{specs.Int.{Width}, specs.Result.{result_map_both}, proofs.lemmas.Bool.{cases_eq, cases_lt}}
use Rattle.std.proofs.lemmas.List.{length-set, get_or-set_same, get_or-set_other, length-take-le, take-append-drop, take-append-le, take-take, take_at}
use Rattle.zf_spec.{specs.Grid.{product, coordinates, upto, blocks, extent_of}, specs.Stream.{to_bits, with_fill}, specs.Codes.{read_rate, rate, round}}
use Rattle.zf_spec.proofs.{Bytes.{length-to_bits}, Counting.{length-map-upto, get_or-map-upto}, BlockReading.{read_rate-rate}}
use Rattle.zf_base.{specs.Widths.{width_of}, specs.Places.{block_number, place_of}, proofs.Places.{IsAt-position}}
use Rattle.zf_header.{specs.declared.header.Header.{Header}, specs.declared.header.Mode.TheVariants.{Rate}}
use Rattle.zf_header.specs.HeaderBits.{header_bits, block_bits, IsHeader, BeginsWith}
use Rattle.zf_header.proofs.{Good.{good}, Found.{read_is_header, read_is_spelled}, Spelled.{spelled_is_good, spelled_is_read}}
use Rattle.zf_parse.{specs.declared.fault.StreamFault.{StreamFault}, specs.ReadStreams.{BeginsWithHeader}}
use Rattle.zf_parse.specs.Parsing.{Said, read_code, fill_answer, values_of_blocks}
use Rattle.zf_parse.proofs.{Parsed.{parse_behind}, RateStreams.{read_code-rate}}
use Rattle.zf_index.specs.Spans.{Index, place, len_at, code_in, codes_in}
use Rattle.zf_index.specs.{Files.{HasHeader, IsIndexOf, AreRead, found, blocks_found, len_read, block_read}}
use Rattle.zf_index.proofs.{Places.{place-le, place-next, ends_within}, Read.{index_is, answer_behind}}
use Rattle.zf_store.proofs.Cut.{before_change, behind_change, at_change}
use Rattle.zf_part.{specs.Blocks.{IsWritten, code_place, code_of}, proofs.Spans.{rate_len, place_is, value_there}}

-- a list of one thing for each number, where one of them changes
set_one : {A : Type 0} (d : A) (f g : ℕ → A) (n b : ℕ) (a : A) → b < n → g b ≡ a → ((k : ℕ) → k < n → k ≢ b → g k ≡ f k) → map g (upto n) ≡ set (map f (upto n)) b a
set_one {A} d f g n b a below here others = ext_get_or d (map g (upto n)) (set (map f (upto n)) b a) (length-map-upto g n ∙ sym same) (λ k lt. by k (omega (arith, lt, length-map-upto g n)) (cases_eq k b))
  where
    same : length (set (map f (upto n)) b a) ≡ n
    same = length-set (map f (upto n)) b a ∙ length-map-upto f n

    by : (k : ℕ) → k < n → (k ≡ b) ⊎ (k ≡ b → ⊥) → get_or (map g (upto n)) k d ≡ get_or (set (map f (upto n)) b a) k d
    by k lt (inl is) =
        get_or-map-upto g n k d lt ∙ ap g is ∙ here ∙ sym (get_or-set_same (map f (upto n)) b a d (omega (arith, below, length-map-upto f n)))
        ∙ ap (λ j. get_or (set (map f (upto n)) b a) j d) (sym is)
    by k lt (inr other) =
        get_or-map-upto g n k d lt ∙ others k lt other ∙ sym (get_or-map-upto f n k d lt) ∙ sym (get_or-set_other (map f (upto n)) b k a d other)

-- only a good answer gives one
only_ok : (said other : Said) (answer : Result (Unit {0}) StreamFault) → result_map_both (λ good. said) (λ e. e) answer ≡ Ok other → answer ≡ Ok tt
only_ok said other (Ok tt) e = refl
only_ok said other (Err f) e = absurd cc

-- ---- codes of one length

module _ (h : Header) (i : Index) (rate : ℕ) (mode : h.mode ≡ Rate rate) (lens : (k : ℕ) → k < length i.lens → len_at i k ≡ rate) (s : List Bool) (within : place i (length i.lens) ≤ length s) where
  -- where a code begins there are the bits of one
  pub code_long : (k : ℕ) → k < length i.lens → length (take rate (drop (place i k) s)) ≡ rate
  code_long k lt = length-take-le rate (drop (place i k) s) (omega (arith, length-drop (place i k) s, ends_within i k (length i.lens) lt, lens k lt, within))

  pub found_at : (k : ℕ) → k < length i.lens → found h i s k ≡ Some (read_rate (width_of h.ty) (extent_of h.shape k) (take rate (drop (place i k) s)), rate)
  found_at k lt =
      let t = drop (place i k) s in
      let w = width_of h.ty in
      let es = extent_of h.shape k in
      ap (λ (u : List Bool). read_code w h.mode es u) (sym (take-append-drop rate t))
      ∙ read_code-rate h rate es (take rate t) (drop rate t) mode (code_long k lt)
      ∙ ap (λ n. Some (read_rate w es (take rate t), n)) (code_long k lt)

  pub all_read : AreRead h i s
  all_read k lt = ap len_read (found_at k lt) ∙ ap Some (sym (lens k lt))

  pub block_there : (k : ℕ) → k < length i.lens → block_read (found h i s k) ≡ read_rate (width_of h.ty) (extent_of h.shape k) (take rate (drop (place i k) s))
  block_there k lt = ap block_read (found_at k lt)

-- ---- one of them is put anew

module _ (old new : List ℕ) (h : Header) (i : Index) (is : IsIndexOf old h i) (has : HasHeader old h) (rate : ℕ) (mode : h.mode ≡ Rate rate) (b : ℕ) (below : b < blocks h.shape)
    (code : List Bool) (long : length code ≡ rate) (put : to_bits new ≡ take (place i b) (to_bits old) ++ code ++ drop (place i b + rate) (to_bits old)) where
  abbrev at : ℕ
  at = place i b

  abbrev s : List Bool
  s = to_bits old

  abbrev t : List Bool
  t = to_bits new

  lens : (k : ℕ) → k < length i.lens → len_at i k ≡ rate
  lens = rate_len old h i is rate mode

  lt : b < length i.lens
  lt = omega (arith, below, is.count)

  ends : at + rate ≤ place i (length i.lens)
  ends = omega (arith, ends_within i b (length i.lens) lt, lens b lt)

  inside : at ≤ length s
  inside = omega (arith, ends, is.within)

  put_behind : t ≡ take at s ++ (code ++ drop (at + rate) s)
  put_behind = put ∙ append_assoc (take at s) code (drop (at + rate) s)

  same_len : length t ≡ length s
  same_len =
      omega (
        arith,
        ap length put_behind,
        length-append (take at s) (code ++ drop (at + rate) s),
        length-append code (drop (at + rate) s),
        length-take-le at s inside,
        length-drop (at + rate) s,
        long,
        ends,
        is.within,
      )

  within : place i (length i.lens) ≤ length t
  within = omega (arith, same_len, is.within)

  -- the header stays
  begins : BeginsWith new h
  begins =
      let n = length (header_bits h) in
      let spelled : BeginsWith old h = subst (BeginsWith old) (sym has.header) (read_is_spelled old (good old (sym has.good))) in
      let before : n ≤ at = omega (arith, is.start, place-le i 0 b (omega arith)) in
      let size = length-take-le at s inside in
      record {
        bits = ap (take n) put_behind ∙ take-append-le n (take at s) (code ++ drop (at + rate) s) (omega (arith, before, size))
            ∙ take-take n at s before ∙ spelled.bits;
      }

  is_header : IsHeader h
  is_header = subst IsHeader (sym has.header) (read_is_header old (good old (sym has.good)))

  begun_old : BeginsWithHeader old h i.start
  begun_old = record { good = has.good; header = has.header; bits_is = is.start; within = omega (arith, is.start, length-to_bits old, place-le i 0 (length i.lens) (omega arith), is.within) }

  begun : BeginsWithHeader new h i.start
  begun =
      record {
        good = sym (spelled_is_good new h is_header begins);
        header = sym (spelled_is_read new h is_header begins);
        bits_is = is.start;
        within = omega (arith, is.start, length-to_bits new, place-le i 0 (length i.lens) (omega arith), within);
      }

  -- and so does what stands behind the codes
  fill : fill_answer h (place i (length i.lens)) (drop (place i (length i.lens)) t) ≡ Ok tt
  fill =
      let n = place i (length i.lens) in
      let same : drop n t ≡ drop n s = ap (drop n) put ∙ behind_change n at rate s code inside long ends in
      ap (fill_answer h n) same
      ∙ only_ok _ _ (fill_answer h n (drop n s)) (sym (answer_behind h i s is.read is.count is.within) ∙ sym (parse_behind old h i.start begun_old) ∙ is.said)

  pub still : IsIndexOf new h i
  still =
      index_is new h i.start begun i.lens (omega (arith, same_len, is.small))
      (record { count = is.count; read = all_read h i rate mode lens t within; within = within; fill = fill })

  -- the code and the others
  code_here : take rate (drop at t) ≡ code
  code_here = ap (λ (u : List Bool). take rate (drop at u)) put ∙ at_change at rate s code (drop (at + rate) s) inside long

  code_there : (k : ℕ) → k < length i.lens → k ≢ b → take rate (drop (place i k) t) ≡ take rate (drop (place i k) s)
  code_there k in_all other = by (cases_lt k b)
    where
      by : (k < b) ⊎ (b ≤ k) → take rate (drop (place i k) t) ≡ take rate (drop (place i k) s)
      by (inl lower) =
          ap (λ (u : List Bool). take rate (drop (place i k) u)) put_behind
          ∙ before_change (place i k) rate at s (code ++ drop (at + rate) s) (omega (arith, ends_within i k b lower, lens k in_all)) inside
      by (inr upper) =
          let next : at + rate ≤ place i k = omega (arith, place-next i b, lens b lt, place-le i (b + 1) k (omega (arith, upper, other))) in
          ap (λ (u : List Bool). take rate (drop (place i k) u)) put ∙ ap (take rate) (behind_change (place i k) at rate s code inside long next)

  codes_are : codes_in i t ≡ set (codes_in i s) b code
  codes_are =
      set_one {A = List Bool} [] (code_in i s) (code_in i t) (length i.lens) b code lt (ap (λ n. take n (drop at t)) (lens b lt) ∙ code_here)
      (λ k in_all other. ap (λ n. take n (drop (place i k) t)) (lens k in_all) ∙ code_there k in_all other ∙ sym (ap (λ n. take n (drop (place i k) s)) (lens k in_all)))

  -- the blocks that they stand for
  block_here : block_read (found h i t b) ≡ read_rate (width_of h.ty) (extent_of h.shape b) code
  block_here = block_there h i rate mode lens t within b lt ∙ ap (read_rate (width_of h.ty) (extent_of h.shape b)) code_here

  block_stays : (k : ℕ) → k < length i.lens → k ≢ b → block_read (found h i t k) ≡ block_read (found h i s k)
  block_stays k in_all other =
      block_there h i rate mode lens t within k in_all ∙ ap (read_rate (width_of h.ty) (extent_of h.shape k)) (code_there k in_all other)
      ∙ sym (block_there h i rate mode lens s is.within k in_all)

  -- what is said now, where the code is that of values
  pub says : (block : List ℤ) → code ≡ code_of h b block → length new ≡ length old → IsWritten old new h b block
  says block is_code count =
      let ns = h.shape in
      let n = length i.lens in
      let f : ℕ → List ℤ = λ k. block_read (found h i s k) in
      let g : ℕ → List ℤ = λ k. block_read (found h i t k) in
      let w = width_of h.ty in
      let es = extent_of ns b in
      let budget : rate ≡ block_bits h.mode = ap block_bits (sym mode) in
      let rounded : g b ≡ round w (block_bits h.mode) es block = block_here ∙ ap (read_rate w es) is_code ∙ read_rate-rate w (block_bits h.mode) es block in
      record {
        bits = put ∙ ap (λ a. take a s ++ code ++ drop (a + rate) s) (place_is old h i is rate mode b below)
            ∙ ap (λ (c : List Bool). take (code_place h b) s ++ c ++ drop (code_place h b + rate) s) is_code
            ∙ ap (λ r. take (code_place h b) s ++ code_of h b block ++ drop (code_place h b + r) s) budget;
        count = count;
        before = record { header = h; codes = codes_in i s; values = values_of_blocks ns (blocks_found h i s) };
        parsed_before = is.said;
        after = record { header = h; codes = codes_in i t; values = values_of_blocks ns (blocks_found h i t) };
        parsed = still.said;
        says = record {
          header = refl;
          codes = codes_are ∙ ap (set (codes_in i s) b) is_code;
          count = length-values ns (blocks_found h i t) ∙ sym (length-values ns (blocks_found h i s));
          values = λ ps there here.
              value_there ns ps g n is.count there.dims there.inside
              ∙ ap (λ k. get_or (g k) (place_of ps) (pos 0)) here
              ∙ ap (λ (vs : List ℤ). get_or vs (place_of ps) (pos 0)) rounded;
          others = λ ps there other.
              value_there ns ps g n is.count there.dims there.inside
              ∙ ap (λ (vs : List ℤ). get_or vs (place_of ps) (pos 0))
              (block_stays (block_number ns ps) (omega (arith, is.count, (IsAt-position ns ps there.dims there.inside).block_in_array)) other)
              ∙ sym (value_there ns ps f n is.count there.dims there.inside);
        };
      }
    where
      length-values : (ns : List ℕ) (bs : List (List ℤ)) → length (values_of_blocks ns bs) ≡ product ns
      length-values ns bs = length-map-upto (λ k. get_or (get_or bs (block_number ns (coordinates ns k)) []) (place_of (coordinates ns k)) (pos 0)) (product ns)

-- ---- the code that is written

-- it is that of the values
pub code_means : (h : Header) (b : ℕ) (values : List ℤ) (bits : ℕ) → h.mode ≡ Rate bits → (w : Width) (es : List ℕ) → w ≡ width_of h.ty → es ≡ extent_of h.shape b → rate w bits es values ≡ code_of h b values
code_means h b values bits mode w es same at =
    ap (λ v. rate v bits es values) same ∙ ap (λ n. rate (width_of h.ty) n es values) (ap block_bits (sym mode))
    ∙ ap (λ (xs : List ℕ). rate (width_of h.ty) (block_bits h.mode) xs values) at

-- and it is put where it belongs, whole
pub put_there : (new old words bits : List Bool) (at place len rate : ℕ) → new ≡ take at old ++ take len words ++ drop (at + len) old → at ≡ place → len ≡ rate → words ≡ with_fill bits → length bits ≡ rate
    → new ≡ take place old ++ bits ++ drop (place + rate) old
put_there new old words bits at place len rate is is_at is_len whole long = search (rules, take_at)
