-- What was written of a stream: a prefix, or all of it.
use Rattle.std.proofs.Common.{rules, ◌≡◌, refl, sym, ap, ◌∙◌, ℕ, suc, ◌+◌, ◌-◌, ◌*◌, ◌/◌, ◌<◌, ◌≤◌, Bool, List, [], ◌∷◌, ◌++◌, map, length, drop, All, Option, append_assoc, length-append, mul_comm, take_at, drop_at, arith}
use Rattle.std.{proofs.lemmas.List.{nil_from_length, append-nil}, specs.List.{flat_map}, specs.Int.{byte_len}}
use Rattle.std.proofs.lemmas.List.Elements.{All-head, All-tail}
use Rattle.std.proofs.Math.Nat.{mul-le-mul_left, mod-eq_of_lt}
use Rattle.zf_spec.{specs.Numbers.{field, number}, specs.Grid.{product, grid, upto, count_from}}
use Rattle.zf_spec.specs.Stream.{fill, with_fill, bytes_from, to_bytes, to_bits, codes, values_from, file, stream, stream_of_bytes}
use Rattle.zf_spec.proofs.Fields.{length-field, number-field}
use Rattle.zf_spec.proofs.Bytes.{length-to_bits, to_bytes-to_bits, fill_whole}
use Rattle.zf_base.specs.Widths.{width_of}
use Rattle.zf_pad.specs.Slabs.{rows_of, row_len, IsSlab, first_block}
use Rattle.zf_dev.{specs.Source.{Takes, Gives, GivesSome}, specs.Sink.{Appends, AppendsPrefix}}
use Rattle.zf_dev.{proofs.Taking.{Takes-append}, proofs.Giving.{Gives-append}}
use Rattle.zf_dev.proofs.Appending.{AppendsPrefix-more}
use Rattle.zf_header.{specs.declared.header.Header.{Header}, specs.HeaderBits.{coding, header_bits}}
use Rattle.zf_parse.{specs.Raw.{stream_text}, proofs.Codes.{joined-prefix}}
use Rattle.zf_stream.{specs.Outcomes.{LeavesPrefix, WritesPrefix}, specs.Flows.{Flows, Spills}}
use Rattle.zf_stream.specs.Rows.{rows_len, code_of_block, codes_of_rows, Compresses, Stops}
use Rattle.zf_stream.proofs.Flowing.{Flows-more, Flows-next, Flows-spill, Spills-flows}
use Rattle.zf_stream.{proofs.Rows.{codes_of_rows-more, codes_of_all_rows}, proofs.Slabwise.{rows_len-all}}
use Rattle.zf_stream.proofs.LookedAt.{stream_text-more}

-- ---- bytes in front of bits

pub to_bytes-prefix : (bytes : List ℕ) (s : List Bool) → All (λ b. b < 256) bytes → to_bytes (to_bits bytes ++ s) ≡ bytes ++ to_bytes s
to_bytes-prefix [] s small = refl
to_bytes-prefix (b ∷ bytes) s small =
    let rest = to_bits bytes ++ s in
    let all = field 8 b ++ rest in
    let together : to_bits (b ∷ bytes) ++ s ≡ all = append_assoc (field 8 b) (to_bits bytes) s in
    let count : length all / 8 ≡ suc (length rest / 8) = omega (arith, length-append (field 8 b) rest, length-field 8 b) in
    let prefix = take_at (field 8 b) rest 8 (length-field 8 b) in
    let behind = drop_at (field 8 b) rest 8 (length-field 8 b) in
    let byte = ap number prefix ∙ number-field 8 b ∙ mod-eq_of_lt (All-head (λ c. c < 256) b bytes small) in
    ap to_bytes together ∙ ap (λ n. bytes_from n all) count
    ∙ ap (λ c. c ∷ bytes_from (length rest / 8) (drop 8 all)) byte
    ∙ ap (λ (bs : List Bool). b ∷ bytes_from (length rest / 8) bs) behind
    ∙ ap (λ (cs : List ℕ). b ∷ cs) (to_bytes-prefix bytes s (All-tail (λ c. c < 256) b bytes small))

-- ---- the bits of a stream

-- without the fill
abbrev pub stream_bits : Header → List ℕ → List Bool
stream_bits h bytes = header_bits h ++ codes_of_rows h (rows_of h.shape) bytes

whole_text : (h : Header) (bytes : List ℕ)
    → stream_text h bytes ≡ to_bytes (with_fill (header_bits h ++ flat_map (λ c. c) (codes (width_of h.ty) h.shape (coding h.mode) (values_from (width_of h.ty) (product h.shape) bytes))))
unfolding stream_text stream_of_bytes stream file header_bits
whole_text h bytes = refl

pub stream_text-bits : (h : Header) (bytes : List ℕ) → 1 ≤ length h.shape → stream_text h bytes ≡ to_bytes (with_fill (stream_bits h bytes))
stream_text-bits h bytes some = whole_text h bytes ∙ ap (λ (cs : List Bool). to_bytes (with_fill (header_bits h ++ cs))) (sym (codes_of_all_rows h bytes some))

-- what was written of a prefix of the bits with their fill is a prefix of the text
prefix_of_text : (h : Header) (bytes : List ℕ) (bits rest : List Bool) {out0 out : Option (List ℕ)} → 1 ≤ length h.shape → bits ++ rest ≡ with_fill (stream_bits h bytes) → Spills out0 out bits
    → AppendsPrefix out0 out (stream_text h bytes)
prefix_of_text h bytes bits rest {out0} {out} some is spills =
    let parts : to_bits spills.bytes ++ (spills.left ++ rest) ≡ with_fill (stream_bits h bytes) =
    sym (append_assoc (to_bits spills.bytes) spills.left rest) ∙ ap (λ (bs : List Bool). bs ++ rest) spills.parts ∙ is in
    let text : spills.bytes ++ to_bytes (spills.left ++ rest) ≡ stream_text h bytes =
    sym (to_bytes-prefix spills.bytes (spills.left ++ rest) spills.small) ∙ ap to_bytes parts ∙ sym (stream_text-bits h bytes some) in
    rw text at (AppendsPrefix-more out0 out spills.bytes (to_bytes (spills.left ++ rest)) spills.written)

-- the codes of some rows are a prefix of those of all
pub codes_behind : (h : Header) (rows : ℕ) (bytes more : List ℕ) → IsSlab h.shape 0 rows → length bytes ≡ rows_len h rows
    → (rest : List Bool) × (codes_of_rows h rows bytes ++ rest ≡ codes_of_rows h (rows_of h.shape) (bytes ++ more))
codes_behind h rows bytes more whole long =
    let g = row_len (grid h.shape) in
    let f = code_of_block h (bytes ++ more) in
    let k = first_block h.shape ((rows + 3) / 4) in
    let n = first_block h.shape ((rows_of h.shape + 3) / 4) in
    let upper : (rows + 3) / 4 ≤ (rows_of h.shape + 3) / 4 = omega (arith, whole.within) in
    let fewer : k ≤ n = mul-le-mul_left g upper in
    let all : k + (n - k) ≡ n = omega arith in
    let rest = flat_map (λ c. c) (map f (count_from k (n - k))) in (
      rest,
      ap (λ (bs : List Bool). bs ++ rest) (sym (codes_of_rows-more h rows bytes more whole long)) ∙ sym (joined-prefix f k (n - k)) ∙ ap (λ m. flat_map (λ c. c) (map f (upto m))) all,
    )

-- what the codes of some rows tell, whatever follows these rows
prefix_of_rows : (h : Header) (rows : ℕ) (bytes more : List ℕ) {out0 out : Option (List ℕ)} → IsSlab h.shape 0 rows → length bytes ≡ rows_len h rows → Spills out0 out (header_bits h ++ codes_of_rows h rows bytes)
    → AppendsPrefix out0 out (stream_text h (bytes ++ more))
prefix_of_rows h rows bytes more {out0} {out} whole long spills =
    let all = bytes ++ more in
    let behind = codes_behind h rows bytes more whole long in
    let rest = behind.0 ++ fill (stream_bits h all) in
    let bits = header_bits h ++ codes_of_rows h rows bytes in
    let is : bits ++ rest ≡ with_fill (stream_bits h all) =
    sym (append_assoc bits behind.0 (fill (stream_bits h all)))
    ∙ ap (λ (bs : List Bool). bs ++ fill (stream_bits h all)) (append_assoc (header_bits h) (codes_of_rows h rows bytes) behind.0 ∙ ap (λ (cs : List Bool). header_bits h ++ cs) behind.1) in
    prefix_of_text h all bits rest whole.some_axis is spills

-- where the work stopped
module _ (h : Header) {src0 now out0 out : Option (List ℕ)} {gives : List ℕ → Type 0} (stops : Stops h src0 now gives out0 out (header_bits h)) where
  pub prefix_where_stopped : LeavesPrefix (stream_text h) src0 now out0 out
  prefix_where_stopped = record { bytes = stops.bytes ++ stops.more; taken = stops.taken; written = prefix_of_rows h stops.rows stops.bytes stops.more stops.whole stops.long stops.spills }

  pub prefix_of_given : WritesPrefix (stream_text h) gives out0 out
  prefix_of_given = record { bytes = stops.bytes; lost = stops.lost; given = stops.given; written = λ rest. prefix_of_rows h stops.rows stops.bytes rest stops.whole stops.long stops.spills }

-- behind what was written before
pub Stops-behind : (h : Header) {src now out0 out1 out2 : Option (List ℕ)} {gives : List ℕ → Type 0} {bits left : List Bool} → Flows out0 out1 bits left → Stops h src now gives out1 out2 left → Stops h src now gives out0 out2 bits
Stops-behind h {src} {now} {out0} {out1} {out2} {gives} {bits} {left} flows stops =
    let spills = Flows-spill (Flows-more (codes_of_rows h stops.rows stops.bytes) flows) stops.spills in
    search rules

pub Compresses-behind : (h : Header) (rows : ℕ) {src now out0 out1 out2 : Option (List ℕ)} {gives : List ℕ → Type 0} {bits left last : List Bool} → Flows out0 out1 bits left → Compresses h rows src now gives out1 out2 left last
    → Compresses h rows src now gives out0 out2 bits last
Compresses-behind h rows {src} {now} {out0} {out1} {out2} {gives} {bits} {left} {last} flows done =
    let all = Flows-next (Flows-more (codes_of_rows h rows done.bytes) flows) done.flows in
    search rules

-- ---- the end

-- the source was read further
pub Compresses-read : (h : Header) (rows : ℕ) {src mid now out0 out : Option (List ℕ)} {a b c : List ℕ → Type 0} {bits left : List Bool} → Compresses h rows src mid (Gives a b) out0 out bits left → Takes mid now [] → Gives b c []
    → Compresses h rows src now (Gives a c) out0 out bits left
Compresses-read h rows {src} {mid} {now} {out0} {out} {a} {b} {c} {bits} {left} done none nothing = search (rules, append-nil)

pub Compresses-stop : (h : Header) (rows : ℕ) {src mid now out0 out : Option (List ℕ)} {a b c : List ℕ → Type 0} {bits left : List Bool} (more : List ℕ) → Compresses h rows src mid (Gives a b) out0 out bits left → Takes mid now more → GivesSome b c
    → Stops h src now (Gives a c) out0 out bits
Compresses-stop h rows {src} {mid} {now} {out0} {out} {a} {b} {c} {bits} {left} more done taken lost =
    let reads = Takes-append src mid now done.bytes more done.taken taken in
    let given = Gives-append done.bytes lost.0 done.given lost.1 in
    let spills = Spills-flows done.flows in
    search rules

-- the fill of what is left is that of all bits
module _ (h : Header) {src now out0 out1 : Option (List ℕ)} {gives : List ℕ → Type 0} {left : List Bool} (done : Compresses h (rows_of h.shape) src now gives out0 out1 (header_bits h) left) where
  fill_same : fill left ≡ fill (stream_bits h done.bytes)
  fill_same = search (rules, length-append, length-to_bits)

  filled : Flows out0 out1 (with_fill (stream_bits h done.bytes)) (left ++ fill left)
  filled = rw (← fill_same) (Flows-more (fill left) done.flows)

  -- the last words were not written
  prefix_of_all : {out2 : Option (List ℕ)} → Spills out1 out2 (left ++ fill left) → AppendsPrefix out0 out2 (stream_text h done.bytes)
  prefix_of_all {out2} spills = prefix_of_text h done.bytes (with_fill (stream_bits h done.bytes)) [] done.whole.some_axis (append-nil _) (Flows-spill filled spills)

  pub prefix_at_end : {out2 : Option (List ℕ)} → Spills out1 out2 (left ++ fill left) → LeavesPrefix (stream_text h) src now out0 out2
  prefix_at_end {out2} spills = record { bytes = done.bytes; taken = done.taken; written = prefix_of_all spills }

  -- bytes behind those of the array are not looked at
  pub given_at_end : {out2 : Option (List ℕ)} → Spills out1 out2 (left ++ fill left) → WritesPrefix (stream_text h) gives out0 out2
  given_at_end {out2} spills =
      let count = mul_comm (byte_len (width_of h.ty)) (product h.shape) in
      let long : product h.shape * byte_len (width_of h.ty) ≤ length done.bytes =
      omega (arith, done.long, rows_len-all h done.whole.some_axis, count) in
      let given : gives (done.bytes ++ []) = rw (append-nil done.bytes) done.given in
      record {
        bytes = done.bytes;
        lost = [];
        given = given;
        written = λ rest. rw (stream_text-more h done.bytes rest long) (prefix_of_all spills);
      }

  -- they were
  pub text_at_end : {out2 : Option (List ℕ)} {last : List Bool} → Flows out1 out2 (left ++ fill left) last → length last < 64 → Appends out0 out2 (stream_text h done.bytes)
  text_at_end {out2} {last} flows few =
      let all = Flows-next filled flows in
      let bits = stream_bits h done.bytes in
      let none : length last ≡ 0 =
      omega (arith, ap length all.parts, length-append {A = Bool}, length-to_bits, all.words, fill_whole bits, few) in
      let same = append-nil (to_bits all.bytes) in
      let parts : to_bits all.bytes ≡ with_fill bits = cc (nil_from_length last none, all.parts) in
      let text = sym (to_bytes-to_bits all.bytes all.small) ∙ ap to_bytes parts in
      let is = text ∙ sym (stream_text-bits h done.bytes done.whole.some_axis) in
      rw (← is) all.written
