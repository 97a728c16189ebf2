-- What is answered where a stream is restored if its values are of one type.
use Rattle.std.proofs.Common.{rules, ◌≡◌, ◌≢◌, refl, sym, ap, ◌∙◌, ℕ, ◌≤◌, inl, inr, ⊎_elim, Bool, true, false, List, [], ◌++◌, length, append-nil, Option, Some, None, Result, Ok, Err, arith}
use Rattle.std.specs.Prelude.{IsErrAnd}
use Rattle.zf_base.{specs.declared.lane.Ty.{Ty}}
use Rattle.zf_header.specs.declared.header.Header.{Header}
use Rattle.zf_dev.specs.Source.{Takes, TakesSome, Gives}
use Rattle.zf_parse.{specs.declared.fault.StreamFault.{StreamFault}, proofs.Steps.{header_or}}
use Rattle.zf_parse.{specs.Parsing.{header_of, restore_answer, restored_text}, proofs.Parsed.{begun_more, fault_first}}
use Rattle.zf_parse.specs.ReadStreams.{BeginsWithHeader, HasGoodHeader, IsFaultOf}
use Rattle.zf_parse.specs.declared.fault.StreamFault.TheVariants as faults
use Rattle.zf_stream.specs.Outcomes.{Answers, IsPrefix, TakesFirst, IsFromOutside}
use Rattle.zf_stream.specs.Restoring.{behind, FinishesBehind, CanRefuseBehind, RestoredBehind}
use Rattle.zf_stream.specs.Typed.{with_true, answer_of_types, typed_answer, CanRefuseTyped, RestoresTyped, RestoredWhere}
use Rattle.zf_stream.{proofs.FromPrefix.{Answers-known, Takes-known}, proofs.Headed.{good_of_prefix}}
use Rattle.zf_stream.proofs.RestoreEndings.{answer_unread, nothing_written, bad_memory}
use Rattle.zf_stream.{specs.Outcomes.{RefusesGiven, RestoredGiven}, specs.Restoring.{given_behind}, specs.Typed.{RestoredWhereGiven}}
use Rattle.zf_stream.proofs.GivenBack.{none_written, prefix_by, behind_more}

same_types : (wanted ty : Ty) (answer : Result (Unit {0}) StreamFault) → ty ≡ wanted → answer_of_types wanted ty answer ≡ with_true answer
same_types _ ty answer is = search rules

other_types : (wanted ty : Ty) (answer : Result (Unit {0}) StreamFault) → ty ≢ wanted → answer_of_types wanted ty answer ≡ Ok false
other_types _ _ answer is_not = search rules

-- the answer where the header is known
typed_by : (wanted : Ty) (prefix more : List ℕ) (h : Header) (len : ℕ) → BeginsWithHeader prefix h len → typed_answer wanted (prefix ++ more) ≡ answer_of_types wanted h.ty (restore_answer (prefix ++ more))
typed_by wanted prefix more h len begun = search (rules, begun_more, header_or)

-- a fault of the header
typed_fault : (wanted : Ty) (n : ℕ) (known : Option (List ℕ)) (prefix : List ℕ) (e : StreamFault) (r : Result Bool StreamFault) → 19 ≤ n → IsPrefix n known prefix → IsFaultOf prefix e → r ≡ Err e → Answers r known (typed_answer wanted)
typed_fault wanted n (Some all) prefix (faults.Header f) r within is fault result = search (rules, fault_first, header_or)
typed_fault wanted n _ prefix e r within is fault result = search rules

-- a good header of the other type
typed_other : (wanted : Ty) (known src : Option (List ℕ)) (prefix : List ℕ) (h : Header) (len : ℕ) → Takes known src prefix → BeginsWithHeader prefix h len → h.ty ≢ wanted → Answers (Ok false) known (typed_answer wanted)
typed_other wanted (Some all) (Some rest) prefix h len taken begun other =
    inl (sym (ap (typed_answer wanted) taken ∙ typed_by wanted prefix rest h len begun ∙ other_types wanted h.ty (restore_answer (prefix ++ rest)) other))
typed_other wanted _ src prefix h len taken begun other = search rules

-- one of the wanted type
typed_same : (wanted : Ty) (known src : Option (List ℕ)) (prefix : List ℕ) (h : Header) (len : ℕ) (r : Result (Unit {0}) StreamFault) → Takes known src prefix → BeginsWithHeader prefix h len → h.ty ≡ wanted
    → Answers r (behind prefix src) restore_answer → Answers (with_true r) known (typed_answer wanted)
typed_same wanted known src prefix h len r taken begun same answers = by known src taken (Answers-known r known src prefix restore_answer taken answers)
  where
    outside : (r : Result (Unit {0}) StreamFault) → IsErrAnd r IsFromOutside → IsErrAnd (with_true r) IsFromOutside
    outside (Ok done) is = absurd is
    outside (Err e) is = is

    by : (known src : Option (List ℕ)) → Takes known src prefix → Answers r known restore_answer → Answers (with_true r) known (typed_answer wanted)
    by None src taken answers = tt
    by (Some all) None taken answers = absurd taken
    by (Some all) (Some rest) taken answers =
        let is : typed_answer wanted all ≡ with_true (restore_answer all) =
        ap (typed_answer wanted) taken ∙ typed_by wanted prefix rest h len begun ∙ same_types wanted h.ty (restore_answer (prefix ++ rest)) same
        ∙ ap (λ bs. with_true (restore_answer bs)) (sym taken) in
        ⊎_elim (λ answer. inl (ap with_true answer ∙ sym is)) (λ out. inr (outside r out)) answers

-- a good stream of the wanted type
typed_done : (wanted : Ty) (known src now out0 out : Option (List ℕ)) (prefix : List ℕ) (h : Header) (len : ℕ) → Takes known src prefix → BeginsWithHeader prefix h len → h.ty ≡ wanted → FinishesBehind prefix src now out0 out
    → RestoresTyped wanted known now out0 out
typed_done wanted known src now out0 out prefix h len taken begun same fin =
    let bytes = fin.done.bytes in
    record {
      bytes = bytes;
      taken = Takes-known known src now prefix bytes taken fin.done.taken;
      ended = fin.done.ended;
      good =
          ap (typed_answer wanted) fin.begins ∙ typed_by wanted prefix fin.more h len begun ∙ same_types wanted h.ty (restore_answer (prefix ++ fin.more)) same
          ∙ ap (λ bs. with_true (restore_answer bs)) (sym fin.begins) ∙ ap with_true fin.done.good;
      written = fin.done.written;
    }

-- a fault of a header is that of its bytes, and one behind it that of bytes behind it
typed_possible_header : (wanted : Ty) (prefix : List ℕ) (e : StreamFault) → IsFaultOf prefix e → CanRefuseTyped wanted e
typed_possible_header wanted prefix (faults.Header f) fault = inl (prefix, ap (λ o. header_or o (answer_of_types wanted (header_of prefix).ty (restore_answer prefix))) fault)
typed_possible_header wanted prefix e fault = absurd fault

typed_possible : (wanted : Ty) (prefix : List ℕ) (h : Header) (len : ℕ) (e : StreamFault) → BeginsWithHeader prefix h len → h.ty ≡ wanted → CanRefuseBehind prefix e → CanRefuseTyped wanted e
typed_possible wanted prefix h len e begun same can =
    ⊎_elim (λ is. inl (prefix ++ is.0, typed_by wanted prefix is.0 h len begun ∙ same_types wanted h.ty (restore_answer (prefix ++ is.0)) same ∙ ap with_true is.1)) (λ out. inr out) can

-- ---- how it ends

-- the source failed
pub where_unread : (wanted : Ty) (e : StreamFault) (known now out : Option (List ℕ)) → e ≡ faults.Read → TakesSome known now → RestoredWhere wanted (Err e) known now out out
where_unread wanted e known now out is some = search (rules, answer_unread, nothing_written)

-- there is no good header
pub where_header : (wanted : Ty) (prefix : List ℕ) (e : StreamFault) (known now out : Option (List ℕ)) → TakesFirst 24 known now prefix → IsFaultOf prefix e → RestoredWhere wanted (Err e) known now out out
where_header wanted prefix e known now out first fault =
    let answer = typed_fault wanted 24 known prefix e (Err e) (omega arith) first.first fault refl in
    let r : Result Bool StreamFault = Err e in
    let memory : r ≡ Err faults.Memory → HasGoodHeader known = λ same. absurd (bad_memory prefix e fault r refl same) in
    search (rules, typed_possible_header, nothing_written)

module _ (wanted : Ty) (prefix : List ℕ) (h : Header) (len : ℕ) (known src : Option (List ℕ)) (first : TakesFirst 24 known src prefix) (begun : BeginsWithHeader prefix h len) where
  -- it is one of the other type
  pub where_other : (out : Option (List ℕ)) → h.ty ≢ wanted → RestoredWhere wanted (Ok false) known src out out
  where_other out other =
      let answer = typed_other wanted known src prefix h len first.taken begun other in
      let good : (header_of prefix).ty ≢ wanted = λ is. other (ap (λ (g : Header). g.ty) begun.header ∙ is) in
      let memory : Ok false ≡ Err faults.Memory → HasGoodHeader known = λ same. absurd cc in
      search rules

  module _ (same_type : h.ty ≡ wanted) {now out0 out : Option (List ℕ)} where
    -- it was refused behind its header
    pub where_failed : (e : StreamFault) → RestoredBehind prefix (Err e) src now out0 out → RestoredWhere wanted (Err e) known now out0 out
    where_failed e rest =
        let answer = typed_same wanted known src prefix h len (Err e) first.taken begun same_type rest.answer in
        search (rules, typed_possible, Takes-known, good_of_prefix)

    -- or restored
    pub where_done : RestoredBehind prefix (Ok tt) src now out0 out → RestoredWhere wanted (Ok true) known now out0 out
    where_done rest =
        let answer = typed_same wanted known src prefix h len (Ok tt) first.taken begun same_type rest.answer in
        let memory : Ok true ≡ Err faults.Memory → HasGoodHeader known = λ same. absurd cc in
        search (rules, typed_done)

-- ---- of what the source says that it gave

module _ (wanted : Ty) {gives : List ℕ → Type 0} (bytes : List ℕ) (given : gives bytes) (out : Option (List ℕ)) where
  -- nothing was written
  pub where_refused : (e : StreamFault) → RefusesGiven (typed_answer wanted) gives e → RestoredWhereGiven wanted (Err e) gives out out
  where_refused e refuses = record { ok = tt; refused = refuses; err = none_written bytes given out e restored_text }

  -- there is no good header
  pub where_no_header : (e : StreamFault) → IsFaultOf bytes e → RestoredWhereGiven wanted (Err e) gives out out
  where_no_header (faults.Header f) fault = where_refused (faults.Header f) (inl (bytes, (given, ap (λ o. header_or o (answer_of_types wanted (header_of bytes).ty (restore_answer bytes))) fault)))
  where_no_header e fault = absurd fault

  -- it is one of the other type
  pub where_given_other : (h : Header) (len : ℕ) → BeginsWithHeader bytes h len → length bytes ≤ 24 → h.ty ≢ wanted → RestoredWhereGiven wanted (Ok false) gives out out
  where_given_other h len begun few other =
      let none : bytes ≡ bytes ++ [] = sym (append-nil bytes) in
      let is = ap (typed_answer wanted) none ∙ typed_by wanted bytes [] h len begun ∙ other_types wanted h.ty (restore_answer (bytes ++ [])) other in
      record { ok = record { bytes = bytes; given = given; few = few; other = is; unwritten = refl }; refused = tt; err = tt }

-- what is restored behind a header of the wanted type
module _ (wanted : Ty) {a b c : List ℕ → Type 0} (prefix : List ℕ) (first : Gives a b prefix) (h : Header) (len : ℕ) (begun : BeginsWithHeader prefix h len) (same : h.ty ≡ wanted) where
  typed_behind : (bytes : List ℕ) → given_behind prefix (Gives b c) bytes → typed_answer wanted bytes ≡ with_true (restore_answer bytes)
  typed_behind bytes behind =
      ap (typed_answer wanted) behind.1.0 ∙ typed_by wanted prefix behind.0 h len begun ∙ same_types wanted h.ty (restore_answer (prefix ++ behind.0)) same
      ∙ ap (λ bs. with_true (restore_answer bs)) (sym behind.1.0)

  pub where_given_done : {out0 out : Option (List ℕ)} → RestoredGiven (Ok tt) (given_behind prefix (Gives b c)) out0 out → RestoredWhereGiven wanted (Ok true) (Gives a c) out0 out
  where_given_done {out0} {out} done =
      let w = done.ok in
      record {
        ok = record { bytes = w.bytes; given = behind_more prefix first w.bytes w.given; good = typed_behind w.bytes w.given ∙ ap with_true w.good; written = w.written };
        refused = tt;
        err = tt;
      }

  pub where_given_failed : (e : StreamFault) {out0 out : Option (List ℕ)} → RestoredGiven (Err e) (given_behind prefix (Gives b c)) out0 out → RestoredWhereGiven wanted (Err e) (Gives a c) out0 out
  where_given_failed e {out0} {out} done = record {
    ok = tt;
    refused = ⊎_elim (λ is. inl (is.0, (behind_more prefix first is.0 is.1.0, typed_behind is.0 is.1.0 ∙ ap with_true is.1.1))) (λ outside. inr outside) done.refused;
    err = prefix_by (behind_more prefix first) done.err;
  }
