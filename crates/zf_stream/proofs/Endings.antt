-- How compressing ends, put together.
use Rattle.std.proofs.Common.{rules, ◌≡◌, ◌∙◌, ℕ, ◌<◌, Bool, List, [], ◌++◌, length, Option, Result, Ok, Err}
use Rattle.std.specs.Prelude.{IfErr, OnOk, OnErr}
use Rattle.zf_dev.{specs.Source.{Gives, IsAtEnd}, specs.declared.source.Source.{Ghosts as Source}}
use Rattle.zf_dev.{specs.Devices.{Reads}, proofs.Devices.{Reads-none, Reads-by}}
use Rattle.zf_header.{specs.declared.header.Header.{Header}, specs.HeaderBits.{header_bits}}
use Rattle.zf_parse.specs.declared.fault.StreamFault.{StreamFault}
use Rattle.zf_parse.specs.declared.fault.StreamFault.TheVariants.{Read, Write, Memory}
use Rattle.zf_parse.specs.Raw.{raw_len, compress_answer, stream_text}
use Rattle.zf_stream.specs.Outcomes.{LeavesPrefix, WritesPrefix, Compressed, CompressedGiven, RefusesRaw}
use Rattle.zf_stream.{specs.Flows.{Flows, Spills}, specs.Rows.{Compresses, Stops, Ends}}
use Rattle.zf_stream.{proofs.Slabwise.{rows_len-all}, proofs.RawRows.{write_refused, good_answer}}
use Rattle.zf_stream.proofs.PrefixesOfStreams.{prefix_where_stopped, prefix_of_given, given_at_end, prefix_at_end, text_at_end}
use Rattle.zf_stream.proofs.Answering.{answer_of_refusal, answer_at_end, nothing_left, on_ok_weaker, after_err, text_from, prefix_from}
use Rattle.zf_spec.specs.Stream.{fill}
use Rattle.zf_pad.specs.Slabs.{rows_of}

module _ (h : Header) {src0 src1 out0 out1 : Option (List ℕ)} {gives : List ℕ → Type 0} where
  refusal : (e : StreamFault) → RefusesRaw (compress_answer h) (raw_len h) src0 src1 e → LeavesPrefix (stream_text h) src0 src1 out0 out1 → WritesPrefix (stream_text h) gives out0 out1
      → Ends h (Err e) src0 src1 gives out0 out1
  refusal e refuses left written = let Same : Result (Unit {0}) StreamFault → Type 0 = λ q. IfErr q (λ x. e ≡ x) in search (rules, answer_of_refusal)

  -- where the work stopped, on a refusal
  pub stopped : (e : StreamFault) → RefusesRaw (compress_answer h) (raw_len h) src0 src1 e → Stops h src0 src1 gives out0 out1 (header_bits h) → Ends h (Err e) src0 src1 gives out0 out1
  stopped e refuses stops = refusal e refuses (prefix_where_stopped h stops) (prefix_of_given h stops)

-- where the last words were to be written
pub at_end : (h : Header) {src0 src1 out0 out1 out2 : Option (List ℕ)} {gives : List ℕ → Type 0} {left : List Bool} (r : Result (Unit {0}) StreamFault) (last : List Bool) → Compresses h (rows_of h.shape) src0 src1 gives out0 out1 (header_bits h) left → IsAtEnd src1
    → IfErr r (λ e. e ≡ Write) → OnOk r (Flows out1 out2 (left ++ fill left) last) → OnOk r (length last < 64) → OnErr r (Spills out1 out2 (left ++ fill left)) → Ends h r src0 src1 gives out0 out2
at_end h {src0} {src1} {out0} {out1} {out2} {gives} {left} (Ok u) last done ended fault flows few spills =
    let good = good_answer (raw_len h) done.bytes (done.long ∙ rows_len-all h done.whole.some_axis) in
    let written = text_at_end h done flows few in search (rules, answer_at_end)
at_end h {src0} {src1} {out0} {out1} {out2} {gives} {left} (Err e) last done ended fault flows few spills = refusal h e (write_refused h src0 src1 e fault) (prefix_at_end h done spills) (given_at_end h done spills)

-- memory was wanting
pub no_memory : (h : Header) (e : StreamFault) (src out : Option (List ℕ)) → e ≡ Memory → Compressed (compress_answer h) (stream_text h) (raw_len h) (Err e) src src out out
no_memory h e src out memory = search (rules, answer_of_refusal, nothing_left)

-- nothing was given before
pub given_from : {answer : List ℕ → Result (Unit {0}) StreamFault} {text : List ℕ → List ℕ} {r : Result (Unit {0}) StreamFault} {a b c : List ℕ → Type 0} {out0 out1 : Option (List ℕ)}
    → Gives a b [] → CompressedGiven answer text r (Gives b c) out0 out1 → CompressedGiven answer text r (Gives a c) out0 out1
given_from {answer} {text} {r} {a} {b} {c} {out0} {out1} none given = search (rules, on_ok_weaker, text_from, after_err, prefix_from)

-- memory was wanting before the source was asked
pub unread : {A T : Type 0} {S : Source A} {a : A} (r : Result T StreamFault) (e : StreamFault) → r ≡ Err e → e ≡ Memory → Reads S (r ≡ Err Read) a a
unread {A} {T} {S} {a} r e is memory = Reads-by (Reads-none a) (λ same. cc)
