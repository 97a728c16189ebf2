-- A line as it is read.
use Rattle.std.proofs.Common.{◌≡◌, refl, ◌∙◌, ℕ, ◌<◌, ◌==◌, Bool, false, List, length, Option, Some, None, rules}
use Rattle.zf_cached.{specs.Commands.{Command}, specs.Grammar.{read_line}, specs.Steps.{Setting, Session}}
use Rattle.zf_cached.specs.Runs.{line_step, read_step}
use Rattle.zf_cached.specs.Replies as script
use Rattle.zf_script.{specs.declared.reply.Refusal.{Refusal}, specs.declared.reply.Refusal.TheVariants.{Word}}
use Rattle.zf_script.specs.Seen.{refusal_of}
use Rattle.zf_commands.specs.declared.subject.Subject.{Ghosts as Subject}
use Rattle.zf_commands.{specs.Calls.{IsReady, StaysReady, Obeys}, specs.Steps.{Takes, LeadsTo, starves}}

module _ {Code : Type 0} (setting : Setting Code) (s : Session Code) where
  pub line_empty : (line : List ℕ) → length line ≡ 0 → LeadsTo setting s line s None
  unfolding line_step
  line_empty _ none = search rules

  read_as : (line : List ℕ) (d : ℕ) (o : Option Command) (starving : Bool) → 0 < length line → d ≡ length s.shape → read_line d line ≡ o → line_step setting s line starving ≡ read_step setting s o starving
  unfolding line_step
  read_as _ d o starving some dims is = search rules

  pub line_read : (line : List ℕ) (d : ℕ) (c : Command) (t : Session Code) (reply : Option script.Reply) → 0 < length line → d ≡ length s.shape → read_line d line ≡ Some c
      → Takes setting s c t reply → LeadsTo setting s line t reply
  line_read line d c t reply some dims is takes = read_as line d (Some c) (starves reply) some dims is ∙ takes

  pub line_not_read : (line : List ℕ) (d : ℕ) (why : Refusal) → 0 < length line → d ≡ length s.shape → read_line d line ≡ None → why ≡ Word
      → LeadsTo setting s line s (Some (script.Reply.refused (refusal_of why)))
  unfolding read_step
  line_not_read line d why some dims is word = search (rules, read_as)

pub some_bytes : (n : ℕ) → (n == 0) ≡ false → 0 < n
some_bytes _ e = search rules

-- what is ready stays so where nothing was done, behind a command, and behind one call and another
module _ {A : Type 0} {S : Subject A} {a : A} where
  pub unmoved : IsReady S a → StaysReady S a a
  unmoved ready = record { ready = ready; kept = refl }

  pub obeyed : {b : A} {c : Command} {reply : Option script.Reply} → Obeys S c reply a b → StaysReady S a b
  obeyed told = record { ready = record { sound = told.sound; window = told.does.inside }; kept = told.kept }

  pub ready_then : {b c : A} → StaysReady S a b → StaysReady S b c → StaysReady S a c
  ready_then first next = record { ready = next.ready; kept = next.kept ∙ first.kept }
