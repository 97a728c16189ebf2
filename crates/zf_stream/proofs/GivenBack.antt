-- What is restored of what a source says that it gave.
use Rattle.std.proofs.Common.{sym, subst, ℕ, ◌≤◌, inl, inr, ⊎_elim, List, [], ◌++◌, length, append-nil, Option, Result, Ok, Err, Some, arith}
use Rattle.std.proofs.lemmas.List.{take_all}
use Rattle.zf_dev.{specs.Source.{Gives}, proofs.Giving.{Gives-append, Gives-from}, proofs.Appending.{AppendsPrefix-none}}
use Rattle.zf_parse.{specs.declared.fault.StreamFault.{StreamFault}, specs.Parsing.{restore_answer}, specs.ReadStreams.{IsFaultOf}}
use Rattle.zf_stream.specs.Outcomes.{WritesText, WritesPrefix, CompressedGiven, RefusesGiven, RestoredGiven}
use Rattle.zf_stream.{specs.Restoring.{given_behind}, proofs.Headed.{refusal_of_fault}}

-- ---- what is told of it, in other words

pub refuses_by : {gives also : List ℕ → Type 0} {T : Type 0} {answer : List ℕ → Result T StreamFault} {e : StreamFault} → ((bytes : List ℕ) → gives bytes → also bytes) → RefusesGiven answer gives e → RefusesGiven answer also e
refuses_by {gives} {also} {T} {answer} {e} more refuses = ⊎_elim (λ is. inl (is.0, (more is.0 is.1.0, is.1.1))) (λ outside. inr outside) refuses

module _ {gives also : List ℕ → Type 0} (more : (bytes : List ℕ) → gives bytes → also bytes) {out0 out : Option (List ℕ)} where
  pub text_by : {answer : List ℕ → Result (Unit {0}) StreamFault} {text : List ℕ → List ℕ} → WritesText answer text gives out0 out → WritesText answer text also out0 out
  text_by {answer} {text} writes = record { bytes = writes.bytes; given = more writes.bytes writes.given; good = writes.good; written = writes.written }

  pub prefix_by : {text : List ℕ → List ℕ} → WritesPrefix text gives out0 out → WritesPrefix text also out0 out
  prefix_by {text} writes = record { bytes = writes.bytes; lost = writes.lost; given = more (writes.bytes ++ writes.lost) writes.given; written = writes.written }

  pub compressed_by : {answer : List ℕ → Result (Unit {0}) StreamFault} {text : List ℕ → List ℕ} (r : Result (Unit {0}) StreamFault) → CompressedGiven answer text r gives out0 out → CompressedGiven answer text r also out0 out
  compressed_by {answer} {text} (Ok u) given = record { ok = text_by given.ok; err = tt }
  compressed_by {answer} {text} (Err e) given = record { ok = tt; err = prefix_by given.err }

  pub restored_by : (r : Result (Unit {0}) StreamFault) → RestoredGiven r gives out0 out → RestoredGiven r also out0 out
  restored_by (Ok u) given = record { ok = text_by given.ok; refused = tt; err = tt }
  restored_by (Err e) given = record { ok = tt; refused = refuses_by more given.refused; err = prefix_by given.err }

module _ {a b c : List ℕ → Type 0} (prefix : List ℕ) where
  -- behind bytes that were given before
  pub behind_more : Gives a b prefix → (bytes : List ℕ) → given_behind prefix (Gives b c) bytes → Gives a c bytes
  behind_more first bytes behind = subst (Gives a c) (sym behind.1.0) (Gives-append prefix behind.0 first behind.1.1)

  -- nothing was given before
  pub behind_from : Gives a b [] → (bytes : List ℕ) → given_behind prefix (Gives b c) bytes → given_behind prefix (Gives a c) bytes
  behind_from none bytes behind = (behind.0, (behind.1.0, Gives-from behind.0 none behind.1.1))

-- nothing more was given
pub behind_none : {a b : List ℕ → Type 0} (prefix : List ℕ) → Gives a b [] → given_behind prefix (Gives a b) prefix
behind_none {a} {b} prefix none = ([], (sym (append-nil prefix), none))

-- ---- where nothing was written

module _ {gives : List ℕ → Type 0} (bytes : List ℕ) (given : gives bytes) (out : Option (List ℕ)) (e : StreamFault) where
  pub none_written : (text : List ℕ → List ℕ) → WritesPrefix text gives out out
  none_written text = record { bytes = []; lost = bytes; given = given; written = λ rest. AppendsPrefix-none out (text rest) }

  pub refused_unwritten : RefusesGiven restore_answer gives e → RestoredGiven (Err e) gives out out
  refused_unwritten refuses = record { ok = tt; refused = refuses; err = none_written _ }

  -- there is no good header
  pub refused_header : length bytes ≤ 24 → IsFaultOf bytes e → RestoredGiven (Err e) gives out out
  refused_header few fault =
      refused_unwritten (⊎_elim (λ answer. inl (bytes, (given, answer))) (λ outside. inr outside) (refusal_of_fault 24 (Some bytes) bytes e (omega arith) (sym (take_all 24 bytes few)) fault))
