-- What the first bytes of a source say of all of it.
use Rattle.std.proofs.Common.{◌≡◌, ℕ, ◌≤◌, List, Option, Some, None, sym, ap, ◌∙◌, inl, rules}
use Rattle.zf_header.specs.HeaderFaults.{header_fault}
use Rattle.zf_stream.specs.Outcomes.{IsPrefix, IsRefusal}
use Rattle.zf_parse.{specs.declared.fault.StreamFault.{StreamFault}, specs.Parsing.{restore_answer}}
use Rattle.zf_parse.{specs.ReadStreams.{HasGoodHeader, IsFaultOf}, proofs.Parsed.{fault_first, parse_fault}}
use Rattle.zf_parse.specs.declared.fault.StreamFault.TheVariants as faults

-- the header of a source that exposes its contents is good where that of its first bytes is
pub good_of_prefix : (n : ℕ) (known : Option (List ℕ)) (prefix : List ℕ) → 19 ≤ n → IsPrefix n known prefix → header_fault prefix ≡ None → HasGoodHeader known
good_of_prefix n None prefix within is none = tt
good_of_prefix n (Some all) prefix within is none = sym (fault_first n all within) ∙ ap header_fault (sym is) ∙ none

-- a fault of the header of the first bytes is the refusal
pub refusal_of_fault : (n : ℕ) (known : Option (List ℕ)) (prefix : List ℕ) (e : StreamFault) → 19 ≤ n → IsPrefix n known prefix → IsFaultOf prefix e → IsRefusal known restore_answer e
refusal_of_fault n (Some all) prefix (faults.Header f) within is fault = inl (parse_fault n all prefix f within is fault)
refusal_of_fault n _ prefix e within is fault = search rules
