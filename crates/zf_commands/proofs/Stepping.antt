-- The steps of commands that are refused, and of those that are not.
use Rattle.std.proofs.Common.{◌≡◌, sym, ap, ◌∙◌, true, false, not, ◌&&◌, Option, Some, None, is_some, rules}
use Rattle.zf_cached.{specs.Commands.{Command}, specs.Replies.{Refusal, Reply}, proofs.Runs.{step-refused}}
use Rattle.zf_cached.specs.Steps.{Setting, Session, needs_split, refuses_split, tests, first_refusal, refusal, done}
use Rattle.zf_cached.proofs.Sessions.{step_by}
use Rattle.zf_commands.specs.Steps.{Does, HasWindow, starves}

-- no test of a split fails where there is none, and none is needed
pub no_split : {Code : Type 0} (s : Session Code) (c : Command) → s.split ≡ None → needs_split c ≡ false → refuses_split s c ≡ false
no_split s c whole none = ap (λ o. elim (is_some o) [ true ↦ not (needs_split c) | false ↦ needs_split c ]) whole ∙ none

-- the first test that fails is that of a split
pub refused_split : {Code : Type 0} (setting : Setting Code) (c : Command) (s : Session Code) → HasWindow s → refuses_split s c ≡ true → Does setting c s s (Some (Reply.refused Refusal.split))
unfolding refusal
refused_split setting c s lies split = record {
  step_is = step-refused setting s c false Refusal.split (ap (λ x. first_refusal x (tests setting s c).size (tests setting s c).range (tests setting s c).value ((tests setting s c).memory && false)) split);
  inside = lies;
}

module _ {Code : Type 0} (setting : Setting Code) (c : Command) (s : Session Code) (lies : HasWindow s) (there : refuses_split s c ≡ false) where
  refused : (why : Refusal) → refusal setting s c (starves (Some (Reply.refused why))) ≡ Some why → Does setting c s s (Some (Reply.refused why))
  refused why e = search (rules, step-refused)

  pub refused_size : (tests setting s c).size ≡ true → Does setting c s s (Some (Reply.refused Refusal.size))
  unfolding refusal
  refused_size size = refused Refusal.size (λ i. first_refusal (there i) (size i) (tests setting s c).range (tests setting s c).value ((tests setting s c).memory && false))

  pub refused_range : (tests setting s c).size ≡ false → (tests setting s c).range ≡ true → Does setting c s s (Some (Reply.refused Refusal.range))
  unfolding refusal
  refused_range size range = refused Refusal.range (λ i. first_refusal (there i) (size i) (range i) (tests setting s c).value ((tests setting s c).memory && false))

  pub refused_value : (tests setting s c).size ≡ false → (tests setting s c).range ≡ false → (tests setting s c).value ≡ true → Does setting c s s (Some (Reply.refused Refusal.value))
  unfolding refusal
  refused_value size range value = refused Refusal.value (λ i. first_refusal (there i) (size i) (range i) (value i) ((tests setting s c).memory && false))

  -- out of memory, after all other tests
  pub refused_memory : (tests setting s c).size ≡ false → (tests setting s c).range ≡ false → (tests setting s c).value ≡ false → (tests setting s c).memory ≡ true
      → Does setting c s s (Some (Reply.refused Refusal.memory))
  unfolding refusal
  refused_memory size range value takes = refused Refusal.memory (λ i. first_refusal (there i) (size i) (range i) (value i) (takes i && true))

  -- a command that passes all tests
  module _ (size : (tests setting s c).size ≡ false) (range : (tests setting s c).range ≡ false) (value : (tests setting s c).value ≡ false)
      (t : Session Code) (reply : Option Reply) (none : starves reply ≡ false) (done_is : done setting s c ≡ (t, reply)) where
    passes : refusal setting s c (starves reply) ≡ None
    unfolding refusal
    passes = search rules

    pub accepted : HasWindow t → Does setting c s t reply
    accepted inside = record {
      step_is = step_by setting s c (starves reply) (λ r. r ≡ (t, reply)) (λ why e. absurd (let f : Some why ≡ None = sym e ∙ passes in cc)) (λ e. done_is);
      inside = inside;
    }
