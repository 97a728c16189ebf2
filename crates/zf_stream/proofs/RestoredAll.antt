-- The end of an array that is restored slab by slab: the fill, and what follows.
use Rattle.std.proofs.Common.{rules, ◌≡◌, refl, sym, ap, ◌∙◌, ℕ, ◌+◌, ◌-◌, ◌*◌, ◌%◌, ◌≤◌, Bool, true, false, List, [], ◌++◌, length, Option, Result, Ok, Err, length-append, arith}
use Rattle.std.{proofs.lemmas.List.{append-nil}, specs.Prelude.{OnOk, IfErr}}
use Rattle.zf_spec.{specs.Grid.{blocks, blocks_of}, specs.Stream.{to_bits}}
use Rattle.zf_pad.{specs.Slabs.{rows_of}, proofs.Slabs.{product-rows}}
use Rattle.zf_header.specs.declared.header.Header.{Header}
use Rattle.zf_dev.specs.declared.source.Source.{Ghosts as Source}
use Rattle.zf_parse.{specs.declared.fault.StreamFault.{StreamFault}, specs.Parsing.{read_codes, fill_answer}}
use Rattle.zf_parse.proofs.Steps.{values_or_fault, codes_answer, values_behind}
use Rattle.zf_parse.{proofs.Fill.{fill_place, fill_told, fill_not_good}, proofs.TextOfParse.{read_codes_more}}
use Rattle.zf_parse.proofs.Joined.{values_of_blocks-blocks}
use Rattle.zf_stream.specs.Windows.{Window, left_of, KnowsEnd, Refills}
use Rattle.zf_stream.specs.Restoring.{still, stream_from, Restores, answer_of_codes, LeavesRows, HasFault, RestoresAll}
use Rattle.zf_stream.proofs.Restored.{all_blocks, still_none, rows_left}
use Rattle.zf_stream.proofs.Windows.{Goes-next, codes_refilled, to_bits-append}
use Rattle.zf_stream.{specs.Drawing.{IsSpent}, proofs.Drawing.{DrawsSome-of}}

-- an answer by its two cases
pub on_ok_of : (r : Result (Unit {0}) StreamFault) (P : Type 0) → (r ≡ Ok tt → P) → OnOk r P
on_ok_of _ _ f = search rules

pub if_err_of : (r : Result (Unit {0}) StreamFault) (P : StreamFault → Type 0) → ((e : StreamFault) → r ≡ Err e → P e) → IfErr r P
if_err_of _ _ f = search rules

module _ (h : Header) {A : Type 0} {S : Source A} {src0 mid now : A} {out0 out : Option (List ℕ)} {w0 w1 w2 : Window} (done : Restores h (rows_of h.shape) S src0 mid out0 out w0 w1) (refill : Refills S mid now w1 w2) (ended : KnowsEnd S w2 now)
    (enough : w2.ended ≡ false → 64 ≤ length (left_of w2)) where
  -- the codes of all blocks were read
  codes_all : read_codes h 0 (blocks h.shape) (stream_from w0 (done.bytes ++ refill.bytes)) ≡ Ok (blocks_of h.shape done.values, left_of w2)
  codes_all =
      rw (all_blocks h.shape done.whole.some_axis) at (codes_refilled h _ w0 done.bytes _ done.codes refill)

  -- what is answered where more bytes follow
  answer_with : (more : List ℕ) → answer_of_codes h w0.reader.at (stream_from w0 ((done.bytes ++ refill.bytes) ++ more)) ≡ values_or_fault done.values (fill_answer h w2.reader.at (left_of w2 ++ to_bits more))
  answer_with more =
      let bytes = done.bytes ++ refill.bytes in
      let s = stream_from w0 bytes in
      let left = left_of w2 ++ to_bits more in
      let goes = Goes-next done.goes refill.goes in
      let joined : s ++ to_bits more ≡ stream_from w0 (bytes ++ more) = to_bits-append (left_of w0) bytes more in
      let all = w0.reader.at + length (stream_from w0 (bytes ++ more)) in
      let read : read_codes h 0 (blocks h.shape) (stream_from w0 (bytes ++ more)) ≡ Ok (blocks_of h.shape done.values, left) =
      ap (read_codes h 0 (blocks h.shape)) (sym joined) ∙ read_codes_more h 0 (blocks h.shape) s (to_bits more) (blocks_of h.shape done.values, left_of w2) codes_all in
      let place : all - length left ≡ w2.reader.at + 64 * goes.moved = omega (arith, goes.place, ap length joined, length-append s (to_bits more), length-append (left_of w2) (to_bits more)) in
      let same : (all - length left) % 64 ≡ w2.reader.at % 64 = omega (arith, place) in search (rules, values_behind, codes_answer, values_or_fault, values_of_blocks-blocks, product-rows, fill_place)

  -- where none do
  answer_here : answer_of_codes h w0.reader.at (stream_from w0 (done.bytes ++ refill.bytes)) ≡ values_or_fault done.values (fill_answer h w2.reader.at (left_of w2))
  answer_here =
      ap (λ (bs : List ℕ). answer_of_codes h w0.reader.at (stream_from w0 bs)) (sym (append-nil (done.bytes ++ refill.bytes))) ∙ answer_with []
      ∙ ap (λ (s : List Bool). values_or_fault done.values (fill_answer h w2.reader.at s)) (append-nil (left_of w2))

  -- the window tells it
  told : fill_answer h w2.reader.at (left_of w2 ++ to_bits (still (S.contents now))) ≡ fill_answer h w2.reader.at (left_of w2)
  told = search (rules, still_none, append-nil, fill_told)

  -- the stream is good, so the source is at its end
  pub restores_all : fill_answer h w2.reader.at (left_of w2) ≡ Ok tt → RestoresAll h S src0 now out0 out w0
  restores_all good =
      let bytes = done.bytes ++ refill.bytes in
      record {
        bytes = bytes;
        drawn = (Goes-next done.goes refill.goes).drawn;
        ended = by w2.ended ended enough;
        values = done.values;
        good = answer_here ∙ ap (values_or_fault done.values) good;
        written = done.written;
      }
    where
      by : (known : Bool) → (known ≡ true → IsSpent S now) → (known ≡ false → 64 ≤ length (left_of w2)) → IsSpent S now
      by true at_end many = at_end refl
      by false at_end many = absurd (fill_not_good h w2.reader.at (left_of w2) (many refl) good)

  -- or it has this fault
  pub has_fault : (e : StreamFault) → fill_answer h w2.reader.at (left_of w2) ≡ Err e → HasFault h S src0 now w0 e
  has_fault e fault = record {
    bytes = done.bytes ++ refill.bytes;
    drawn = (Goes-next done.goes refill.goes).drawn;
    answer = answer_here ∙ ap (values_or_fault done.values) fault;
    answer_of_all = answer_with (still (S.contents now)) ∙ ap (values_or_fault done.values) (told ∙ fault);
  }

  pub all_left : LeavesRows h S src0 now out0 out w0
  all_left = rows_left h (rows_of h.shape) done (DrawsSome-of refill.bytes refill.goes.drawn)
