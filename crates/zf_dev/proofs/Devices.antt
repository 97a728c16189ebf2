-- How what calls leave of the devices adds up.
use Rattle.std.proofs.Common.{◌≡◌, refl, arith, rules}
use Rattle.zf_dev.{specs.declared.source.Source.{Ghosts as Source}, specs.declared.sink.Sink.{Ghosts as Sink}}
use Rattle.zf_dev.specs.Devices.{Reads, Writes}

module _ {A : Type 0} {S : Source A} where
  -- nothing was asked of the source
  pub Reads-none : (a : A) → Reads S ⊥ a a
  Reads-none a = record { same = refl; cause = (omega arith, λ none. absurd none); sure = λ sure. (λ none. none, sure) }

  -- a fault that comes only with another
  pub Reads-by : {other fault : Type 0} {a b : A} → Reads S other a b → (fault → other) → Reads S fault a b
  Reads-by {other} {fault} {a} {b} reads is = search rules

  -- calls that did not fail, and then another
  pub Reads-then : {fault : Type 0} {a b c : A} → Reads S ⊥ a b → Reads S fault b c → Reads S fault a c
  Reads-then {fault} {a} {b} {c} before reads = search rules

  -- one more that did not fail
  pub Reads-more : {fault : Type 0} {a b c : A} → Reads S ⊥ a b → Reads S fault b c → Reads S ⊥ a c
  Reads-more {fault} {a} {b} {c} before reads = Reads-then before (Reads-by reads (λ none. absurd none))

  -- and behind a call that only said something
  pub Reads-told : {fault : Type 0} {a b c : A} → S.kept b ≡ S.kept a → S.faults b ≡ S.faults a → (S.never_fails a → S.never_fails b) → Reads S fault b c → Reads S fault a c
  Reads-told {fault} {a} {b} {c} same faults still reads =
      Reads-then (record { same = same; cause = (omega (arith, faults), λ none. absurd none); sure = λ sure. (λ none. none, still sure) }) reads

module _ {A : Type 0} {O : Sink A} where
  -- nothing was asked of the sink
  pub Writes-none : (a : A) → Writes O ⊥ a a
  Writes-none a = record { same = refl; cause = (omega arith, λ none. absurd none) }

  pub Writes-by : {other fault : Type 0} {a b : A} → Writes O other a b → (fault → other) → Writes O fault a b
  Writes-by {other} {fault} {a} {b} writes is = record { same = writes.same; cause = (writes.cause.0, λ f. writes.cause.1 (is f)) }

  pub Writes-then : {fault : Type 0} {a b c : A} → Writes O ⊥ a b → Writes O fault b c → Writes O fault a c
  Writes-then {fault} {a} {b} {c} before writes = search rules

  pub Writes-more : {fault : Type 0} {a b c : A} → Writes O ⊥ a b → Writes O fault b c → Writes O ⊥ a c
  Writes-more {fault} {a} {b} {c} before writes = Writes-then before (Writes-by writes (λ none. absurd none))
