-- Each refusal is that of some input, or comes from outside.
use Rattle.std.proofs.Common.{rules, ◌≡◌, ℕ, ◌+◌, ◌<◌, ◌≤◌, cond, ltb, lt-ltb, le-ltb, List, length, replicate, Some, Ok, Err, sym, ap, ◌∙◌, inl, inr, ⊎_elim}
use Rattle.std.proofs.lemmas.List.{take_all, length-replicate}
use Rattle.zf_parse.{specs.declared.fault.StreamFault.{StreamFault}, specs.Raw.{length_answer}}
use Rattle.zf_parse.{specs.Parsing.{restore_answer}, specs.ReadStreams.{IsFaultOf}}
use Rattle.zf_parse.specs.declared.fault.StreamFault.TheVariants as faults
use Rattle.zf_stream.{specs.Outcomes.{CanRefuse}, proofs.Headed.{refusal_of_fault}}

-- what is answered for so many zero bytes
zeros_answer : (wanted n : ℕ) → length_answer wanted (replicate n 0) ≡ cond (ltb n wanted) (Err (faults.RawShort n)) (cond (ltb wanted n) (Err faults.RawLong) (Ok tt))
zeros_answer wanted n = ap (λ len. cond (ltb len wanted) (Err (faults.RawShort len)) (cond (ltb wanted len) (Err faults.RawLong) (Ok tt))) (length-replicate n 0)

pub CanRefuse-short : (wanted n : ℕ) → n < wanted → CanRefuse (length_answer wanted) (faults.RawShort n)
CanRefuse-short wanted n short =
    inl (replicate n 0, zeros_answer wanted n ∙ ap (λ b. cond b (Err (faults.RawShort n)) (cond (ltb wanted n) (Err faults.RawLong) (Ok tt))) (lt-ltb n wanted short))

pub CanRefuse-long : (wanted : ℕ) → CanRefuse (length_answer wanted) faults.RawLong
CanRefuse-long wanted =
    let n = wanted + 1 in
    inl (replicate n 0, search (rules, zeros_answer, le-ltb, lt-ltb))

-- the fault of a header is that of its bytes
pub CanRefuse-header : (n : ℕ) (prefix : List ℕ) (e : StreamFault) → 19 ≤ n → length prefix ≤ n → IsFaultOf prefix e → CanRefuse restore_answer e
CanRefuse-header n prefix e enough within fault =
    ⊎_elim (λ same. inl (prefix, same)) (λ outside. inr outside) (refusal_of_fault n (Some prefix) prefix e enough (sym (take_all n prefix within)) fault)
