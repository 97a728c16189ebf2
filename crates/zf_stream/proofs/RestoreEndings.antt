-- How restoring ends, put together.
use Rattle.std.proofs.Common.{rules, ◌≡◌, refl, subst, ℕ, inl, inr, List, Option, Some, None, Result, Err, arith}
use Rattle.std.{specs.Prelude.{IfErr, OnOk, OnErr}, proofs.lemmas.Result.{IfErr-weaker}}
use Rattle.zf_spec.specs.Stream.{to_bits}
use Rattle.zf_header.specs.declared.header.Header.{Header}
use Rattle.zf_dev.{specs.Source.{Takes, TakesSome}, proofs.Appending.{AppendsPrefix-none}}
use Rattle.zf_dev.specs.declared.source.Source.{Ghosts as Source}
use Rattle.zf_parse.specs.declared.fault.StreamFault.{StreamFault}
use Rattle.zf_parse.specs.declared.fault.StreamFault.TheVariants.{Read, Memory}
use Rattle.zf_parse.specs.Parsing.{restore_answer, restored_text}
use Rattle.zf_parse.specs.ReadStreams.{BeginsWithHeader, HasGoodHeader, IsFaultOf}
use Rattle.zf_stream.specs.Outcomes.{IsBeforeWriting, Answers, LeavesPrefix, TakesFirst, Restored}
use Rattle.zf_stream.{specs.Windows.{Window}, proofs.OwnFaults.{refused_later}}
use Rattle.zf_stream.specs.Restoring.{RestoredBehind, CanRefuseBehind, RestoresAll, LeavesRows, Refuses}
use Rattle.zf_stream.proofs.Answering.{answer_of_refusal, answer_of_memory, after_err, on_ok_weaker}
use Rattle.zf_stream.{proofs.Headed.{refusal_of_fault}, proofs.Refusals.{CanRefuse-header}}
use Rattle.zf_stream.proofs.FromPrefix.{nothing_taken, finishes_behind, leaves_prefix, can_refuse, answers}

-- memory was wanting
pub no_room : (prefix : List ℕ) (e : StreamFault) (src out : Option (List ℕ)) → e ≡ Memory → RestoredBehind prefix (Err e) src src out out
no_room prefix e src out memory = search (rules, answer_of_memory, nothing_taken)

-- the codes behind the header were restored, or refused
pub restored_behind : {A : Type 0} (S : Source A) (h : Header) (len : ℕ) (prefix : List ℕ) → BeginsWithHeader prefix h len → (w : Window) → w.reader.all ≡ to_bits prefix → w.reader.at ≡ len
    → (r : Result (Unit {0}) StreamFault) (src now : A) (out0 out : Option (List ℕ)) → OnOk r (RestoresAll h S src now out0 out w) → OnErr r (LeavesRows h S src now out0 out w) → IfErr r (Refuses h S src now w)
    → RestoredBehind prefix r (S.contents src) (S.contents now) out0 out
restored_behind {A} S h len prefix begun w all at r src now out0 out done left refused = record {
  answer = answers h len prefix begun w all at S src now r out0 out done refused;
  possible = IfErr-weaker r (Refuses h S src now w) (CanRefuseBehind prefix) (λ e. can_refuse h len prefix begun w all at e) refused;
  ok = on_ok_weaker r done (finishes_behind h len prefix begun w all at);
  err = after_err r left (leaves_prefix h len prefix begun w all at);
  unwritten = IfErr-weaker r (Refuses h S src now w) (λ e. IsBeforeWriting e → out ≡ out0)
      (λ e refuses before. absurd (refused_later h src now w e refuses before)) refused;
}

-- said of all of the source
pub restored_known : (prefix : List ℕ) (r : Result (Unit {0}) StreamFault) (known src now out0 out : Option (List ℕ)) → Takes known src prefix → HasGoodHeader known → RestoredBehind prefix r src now out0 out → Restored r known now out0 out
restored_known prefix r known src now out0 out taken good rest = search (rules, on_ok_weaker, after_err)

-- ---- before the header was known

pub bad_memory : {T : Type 0} (prefix : List ℕ) (e : StreamFault) → IsFaultOf prefix e → (r : Result T StreamFault) → r ≡ Err e → r ≡ Err Memory → ⊥
bad_memory {T} prefix e fault r err same = let is : e ≡ Memory = cc in let no : IsFaultOf prefix Memory = subst (IsFaultOf prefix) is fault in no

pub answer_unread : {T : Type 0} (known : Option (List ℕ)) (e : StreamFault) (answer : List ℕ → Result T StreamFault) → e ≡ Read → Answers (Err e) known answer
answer_unread {T} None e answer is = tt
answer_unread {T} (Some input) e answer is = inr (inl is)

-- some bytes were taken, and nothing was written
pub nothing_written : (known now out : Option (List ℕ)) → TakesSome known now → LeavesPrefix restored_text known now out out
nothing_written known now out some = record { bytes = some.0; taken = some.1; written = AppendsPrefix-none out (restored_text some.0) }

-- the source failed
pub restored_unread : (e : StreamFault) (known now out : Option (List ℕ)) → e ≡ Read → TakesSome known now → Restored (Err e) known now out out
restored_unread e known now out is some = search (rules, answer_unread, nothing_written)

-- there is no good header
pub restored_header : (prefix : List ℕ) (e : StreamFault) (known now out : Option (List ℕ)) → TakesFirst 24 known now prefix → IsFaultOf prefix e → Restored (Err e) known now out out
restored_header prefix e known now out first fault =
    let refusal = refusal_of_fault 24 known prefix e (omega arith) first.first fault in
    let answer = answer_of_refusal (Err e) e known restore_answer refl refusal in
    let possible = CanRefuse-header 24 prefix e (omega arith) first.within fault in
    let memory = bad_memory {T = Unit {0}} prefix e fault (Err e) refl in
    search (rules, nothing_written)
