-- What is restored of the codes in a window, said of the whole stream: the window holds the first bytes, and stands behind their header.
use Rattle.std.proofs.Common.{rules, ◌≡◌, refl, sym, ap, subst, ◌∙◌, ℕ, ◌+◌, ◌⊎◌, inl, inr, ⊎_elim, Bool, List, [], ◌++◌, length, drop, Option, Some, None, Result, Ok, Err, append_assoc, length-append, arith}
use Rattle.std.{proofs.lemmas.List.{drop-append-le, length-drop}, proofs.lemmas.Grind.{flat_map-append}}
use Rattle.std.specs.Prelude.{OnOk, OnErr, IfErr}
use Rattle.zf_spec.{specs.Grid.{blocks}, specs.Stream.{to_bits}, proofs.Bytes.{length-to_bits}}
use Rattle.zf_header.{specs.declared.header.Header.{Header}, specs.HeaderBits.{IsHeader}, proofs.Good.{good}}
use Rattle.zf_header.proofs.Found.{read_is_header}
use Rattle.zf_dev.{specs.Source.{Takes, TakesSome, Gives}, specs.Sink.{Appends}, proofs.Taking.{Takes-none}}
use Rattle.zf_dev.specs.declared.source.Source.{Ghosts as Source}
use Rattle.zf_dev.proofs.Appending.{AppendsPrefix-none}
use Rattle.zf_parse.{specs.declared.fault.StreamFault.{StreamFault}, specs.Raw.{raw_bytes}}
use Rattle.zf_parse.specs.Parsing.{read_codes, restore_answer, restored_text}
use Rattle.zf_parse.proofs.Steps.{values_said, codes_answer, values_behind, blocks_text, without_values, restore_answer-values}
use Rattle.zf_parse.{specs.ReadStreams.{BeginsWithHeader}, proofs.Parsed.{parse_is, begun_more}}
use Rattle.zf_parse.proofs.TextOfParse.{text_of_parse}
use Rattle.zf_parse.specs.declared.fault.StreamFault.TheVariants.{Read, Write}
use Rattle.zf_stream.{specs.Outcomes.{Answers, IsRefusal, Finishes, LeavesPrefix, RestoredGiven}, specs.Windows.{Window}}
use Rattle.zf_stream.specs.Restoring.{behind, given_behind, FinishesBehind, CanRefuseBehind, still, stream_from, text_of_codes, answer_of_codes, LeavesRows, Refuses, RestoresAll}
use Rattle.zf_stream.proofs.Answering.{answer_of_refusal, answer_at_end}

-- ---- bytes in front of a source

-- what is taken behind them
pub Takes-behind : (prefix bytes : List ℕ) (src now : Option (List ℕ)) → Takes src now bytes → Takes (behind prefix src) now (prefix ++ bytes)
Takes-behind prefix bytes (Some left) (Some rest) taken = ap (λ (bs : List ℕ). prefix ++ bs) taken ∙ sym (append_assoc prefix bytes rest)
Takes-behind prefix bytes _ now taken = search rules

-- where they were taken of a source themselves
pub Takes-known : (known src now : Option (List ℕ)) (prefix bytes : List ℕ) → Takes known src prefix → Takes (behind prefix src) now bytes → Takes known now bytes
Takes-known _ src now prefix bytes first taken = search rules

pub Answers-known : (r : Result (Unit {0}) StreamFault) (known src : Option (List ℕ)) (prefix : List ℕ) (answer : List ℕ → Result (Unit {0}) StreamFault) → Takes known src prefix → Answers r (behind prefix src) answer → Answers r known answer
Answers-known r _ src prefix answer first answers = search rules

-- ---- a window that holds them

-- what is restored, for the one who has the header
pub text_is : (bytes : List ℕ) (h : Header) (len : ℕ) → BeginsWithHeader bytes h len → text_of_codes h (drop len (to_bits bytes)) ≡ restored_text bytes
unfolding restored_text
text_is bytes h len begun = search (rules, blocks_text)

module _ (h : Header) (len : ℕ) (prefix : List ℕ) (begun : BeginsWithHeader prefix h len) (w : Window) (all : w.reader.all ≡ to_bits prefix) (at : w.reader.at ≡ len) where
  stream_is : (bytes : List ℕ) → stream_from w bytes ≡ drop len (to_bits (prefix ++ bytes))
  stream_is bytes = search (rules, drop-append-le, length-to_bits, flat_map-append)

  answer_is : (bytes : List ℕ) → answer_of_codes h w.reader.at (stream_from w bytes) ≡ values_said (prefix ++ bytes)
  answer_is bytes =
      let s = to_bits (prefix ++ bytes) in
      let size : w.reader.at + length (stream_from w bytes) ≡ length s =
      omega (arith, at, ap length (stream_is bytes), length-drop len s, begun.within, length-to_bits (prefix ++ bytes), length-append prefix bytes) in
      values_behind h (w.reader.at + length (stream_from w bytes)) (stream_from w bytes)
      ∙ ap (λ n. codes_answer h n (read_codes h 0 (blocks h.shape) (stream_from w bytes))) size
      ∙ ap (λ (t : List Bool). codes_answer h (length s) (read_codes h 0 (blocks h.shape) t)) (stream_is bytes)
      ∙ sym (parse_is (prefix ++ bytes) h len (begun_more prefix bytes h len begun))

  text_of_all : (bytes : List ℕ) → text_of_codes h (stream_from w bytes) ≡ restored_text (prefix ++ bytes)
  text_of_all bytes = ap (text_of_codes h) (stream_is bytes) ∙ text_is (prefix ++ bytes) h len (begun_more prefix bytes h len begun)

  fault_is : (bytes : List ℕ) (e : StreamFault) → answer_of_codes h w.reader.at (stream_from w bytes) ≡ Err e → restore_answer (prefix ++ bytes) ≡ Err e
  fault_is bytes e answer = restore_answer-values (prefix ++ bytes) ∙ ap without_values (sym (answer_is bytes) ∙ answer)

  module _ {A : Type 0} {S : Source A} {src now : A} where
    pub finishes : {out0 out : Option (List ℕ)} → RestoresAll h S src now out0 out w → Finishes restore_answer restored_text (behind prefix (S.contents src)) (S.contents now) out0 out
    finishes {out0} {out} done =
        let bytes = prefix ++ done.bytes in
        let said : values_said bytes ≡ Ok done.values = sym (answer_is done.bytes) ∙ done.good in
        let same : raw_bytes h done.values ≡ restored_text bytes = ap (λ g. raw_bytes g done.values) (begun_more prefix done.bytes h len begun).header ∙ sym (text_of_parse bytes done.values said) in
        let P : List ℕ → Type 0 = λ bs. Appends out0 out bs in
        record {
          bytes = bytes;
          taken = Takes-behind prefix done.bytes (S.contents src) (S.contents now) done.drawn.taken;
          ended = done.ended.at_end;
          good = restore_answer-values bytes ∙ ap without_values said;
          written = subst P same done.written;
        }

    pub finishes_behind : {out0 out : Option (List ℕ)} → RestoresAll h S src now out0 out w → FinishesBehind prefix (S.contents src) (S.contents now) out0 out
    unfolding finishes
    finishes_behind {out0} {out} all_done = record { done = finishes all_done; more = all_done.bytes; begins = refl }

    pub leaves_prefix : {out0 out : Option (List ℕ)} → LeavesRows h S src now out0 out w → LeavesPrefix restored_text (behind prefix (S.contents src)) (S.contents now) out0 out
    leaves_prefix {out0} {out} left = record {
      bytes = prefix ++ (left.bytes ++ left.more);
      taken = Takes-behind prefix (left.bytes ++ left.more) (S.contents src) (S.contents now) left.taken;
      written = rw (text_of_all (left.bytes ++ left.more)) at (left.written left.more);
    }

    pub can_refuse : (e : StreamFault) → Refuses h S src now w e → CanRefuseBehind prefix e
    can_refuse e refuses =
        ⊎_elim (λ fault. inl (fault.bytes, fault_is fault.bytes e fault.answer)) (λ device. ⊎_elim (λ read. inr (inl read)) (λ write. inr (inr (inl write))) device) refuses

    pub is_refusal : (e : StreamFault) → Refuses h S src now w e → IsRefusal (behind prefix (S.contents src)) restore_answer e
    is_refusal e refuses =
        ⊎_elim (λ fault. of_input (S.contents src) (S.contents now) fault.bytes fault.drawn.taken (fault_is (fault.bytes ++ still (S.contents now)) e fault.answer_of_all)) (λ device. from_device (S.contents src) device) refuses
      where
        of_input : (src now : Option (List ℕ)) (bytes : List ℕ) → Takes src now bytes → restore_answer (prefix ++ (bytes ++ still now)) ≡ Err e → IsRefusal (behind prefix src) restore_answer e
        of_input None now bytes taken answer = tt
        of_input (Some left) None bytes taken answer = absurd taken
        of_input (Some left) (Some rest) bytes taken answer = inl (ap (λ (bs : List ℕ). restore_answer (prefix ++ bs)) taken ∙ answer)

        from_device : (src : Option (List ℕ)) → (e ≡ Read) ⊎ (e ≡ Write) → IsRefusal (behind prefix src) restore_answer e
        from_device None device = tt
        from_device (Some left) device = inr (⊎_elim (λ read. inl read) (λ write. inr (inl write)) device)

  module _ {A : Type 0} (S : Source A) (src now : A) where
    -- the answer, whatever it is
    pub answers : (r : Result (Unit {0}) StreamFault) (out0 out : Option (List ℕ)) → OnOk r (RestoresAll h S src now out0 out w) → IfErr r (Refuses h S src now w) → Answers r (behind prefix (S.contents src)) restore_answer
    answers (Ok u) out0 out done refuses =
        let f = finishes done in
        answer_at_end (Ok tt) (behind prefix (S.contents src)) (S.contents now) restore_answer f.bytes tt f.taken f.ended f.good
    answers (Err e) out0 out done refuses = answer_of_refusal (Err e) e (behind prefix (S.contents src)) restore_answer refl (is_refusal e refuses)

    -- and of what the source says that it gave
    pub given_of : (r : Result (Unit {0}) StreamFault) (out0 out : Option (List ℕ)) → OnOk r (RestoresAll h S src now out0 out w) → OnErr r (LeavesRows h S src now out0 out w) → IfErr r (Refuses h S src now w)
        → RestoredGiven r (given_behind prefix (Gives (S.gave src) (S.gave now))) out0 out
    unfolding finishes
    given_of (Ok u) out0 out done left refuses =
        let f = finishes done in
        record { ok = record { bytes = f.bytes; given = (done.bytes, (refl, done.drawn.given)); good = f.good; written = f.written }; refused = tt; err = tt }
    given_of (Err e) out0 out done left refuses = record {
      ok = tt;
      refused = ⊎_elim (λ fault. inl (prefix ++ fault.bytes, ((fault.bytes, (refl, fault.drawn.given)), fault_is fault.bytes e fault.answer))) (λ device. inr (⊎_elim (λ read. inl read) (λ write. inr (inl write)) device)) refuses;
      err = record {
        bytes = prefix ++ left.bytes;
        lost = left.lost;
        given = (left.bytes ++ left.lost, (append_assoc prefix left.bytes left.lost, left.given));
        written = λ rest. rw (append_assoc prefix left.bytes rest) (rw (text_of_all (left.bytes ++ rest)) at (left.written rest));
      };
    }

-- a header that bytes begin with can be written
pub header_is : (prefix : List ℕ) (h : Header) (len : ℕ) → BeginsWithHeader prefix h len → IsHeader h
header_is prefix h len begun = subst IsHeader (sym begun.header) (read_is_header prefix (good prefix (sym begun.good)))

-- some more was taken, and nothing written
pub only_taken : (prefix : List ℕ) (src now out : Option (List ℕ)) {text : List ℕ → List ℕ} → TakesSome src now → LeavesPrefix text (behind prefix src) now out out
only_taken prefix src now out {text} some =
    let bytes = prefix ++ some.0 in
    record { bytes = bytes; taken = Takes-behind prefix some.0 src now some.1; written = AppendsPrefix-none out _ }

-- nothing more was taken
pub nothing_taken : (prefix : List ℕ) (src out : Option (List ℕ)) {text : List ℕ → List ℕ} → LeavesPrefix text (behind prefix src) src out out
nothing_taken prefix src out {text} = only_taken prefix src src out ([], Takes-none src)
