-- What an answer says of the input.
use Rattle.std.proofs.Common.{rules, ◌≡◌, ℕ, List, [], ◌++◌, Option, Result, Ok, Err}
use Rattle.std.specs.Prelude.{IfErr, OnOk, OnErr}
use Rattle.zf_dev.{specs.Source.{Takes, Gives, IsAtEnd}, proofs.Taking.{Takes-none}}
use Rattle.zf_dev.{proofs.Giving.{Gives-none, Gives-from}, proofs.Appending.{AppendsPrefix-none}}
use Rattle.zf_parse.specs.declared.fault.StreamFault.{StreamFault}
use Rattle.zf_parse.specs.declared.fault.StreamFault.TheVariants.{Write, Memory}
use Rattle.zf_stream.specs.Outcomes.{Answers, IsRefusal, LeavesPrefix, WritesText, WritesPrefix}

-- a refusal is an answer
pub answer_of_refusal : (r : Result (Unit {0}) StreamFault) (e : StreamFault) (known : Option (List ℕ)) (answer : List ℕ → Result (Unit {0}) StreamFault) → r ≡ Err e → IsRefusal known answer e → Answers r known answer
answer_of_refusal r e _ answer is refusal = search rules

-- a good input is answered so, unless the sink fails
pub answer_at_end : (r : Result (Unit {0}) StreamFault) (known now : Option (List ℕ)) (answer : List ℕ → Result (Unit {0}) StreamFault) (bytes : List ℕ) → IfErr r (λ e. e ≡ Write) → Takes known now bytes → IsAtEnd now
    → answer bytes ≡ Ok tt → Answers r known answer
answer_at_end r _ now answer bytes fault taken ended good = search rules

pub after_err : {T E : Type 0} {P R : Type 0} (r : Result T E) → OnErr r P → (P → R) → OnErr r R
after_err _ p f = search rules

-- out of memory is an answer
pub answer_of_memory : (r : Result (Unit {0}) StreamFault) (e : StreamFault) (known : Option (List ℕ)) (answer : List ℕ → Result (Unit {0}) StreamFault) → r ≡ Err e → e ≡ Memory → Answers r known answer
answer_of_memory r e _ answer is memory = search rules

-- nothing was read, and nothing written
pub nothing_left : (text : List ℕ → List ℕ) (src out : Option (List ℕ)) → LeavesPrefix text src src out out
nothing_left text src out = record { bytes = []; taken = Takes-none src; written = AppendsPrefix-none out (text []) }

pub nothing_given : (text : List ℕ → List ℕ) (gave : List ℕ → Type 0) (out : Option (List ℕ)) → WritesPrefix text (Gives gave gave) out out
nothing_given text gave out = record { bytes = []; lost = []; given = Gives-none gave; written = λ rest. AppendsPrefix-none out (text rest) }

-- nothing was given before
module _ {text : List ℕ → List ℕ} {a b c : List ℕ → Type 0} {out_before out_now : Option (List ℕ)} (none : Gives a b []) where
  pub text_from : {answer : List ℕ → Result (Unit {0}) StreamFault} → WritesText answer text (Gives b c) out_before out_now → WritesText answer text (Gives a c) out_before out_now
  text_from {answer} writes = record { bytes = writes.bytes; given = Gives-from writes.bytes none writes.given; good = writes.good; written = writes.written }

  pub prefix_from : WritesPrefix text (Gives b c) out_before out_now → WritesPrefix text (Gives a c) out_before out_now
  prefix_from writes = record { bytes = writes.bytes; lost = writes.lost; given = Gives-from (writes.bytes ++ writes.lost) none writes.given; written = writes.written }

pub on_ok_weaker : {T E : Type 0} {P R : Type 0} (r : Result T E) → OnOk r P → (P → R) → OnOk r R
on_ok_weaker _ p f = search rules
