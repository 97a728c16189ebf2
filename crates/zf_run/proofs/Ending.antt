-- How a run ends, whatever it stands on.
use Rattle.std.proofs.Common.{rules, ◌≡◌, subst, ℕ, List, Option}
use Rattle.zf_cached.{specs.State.{State}, specs.Windows.{Window, whole}, specs.Steps.{Setting, Session}}
use Rattle.zf_cached.{specs.Replies.{Reply}, specs.Runs.{lines_of, run_lines}}
use Rattle.zf_commands.{specs.Sittings.{session}, specs.Runs.{AllRun, HasStopped}}
use Rattle.zf_run.{specs.declared.end.RunEnd.{RunEnd}, specs.declared.end.RunEnd.TheVariants.{Write}}
use Rattle.zf_run.specs.Ends.{IsEnd, end_of, Ends}

-- an end says that all lines were run
pub ends_all : (all : ℕ → Type 0) (stopped : Type 0) (n : ℕ) (end : RunEnd) → end ≡ end_of n → all n → IsEnd all stopped end
ends_all all stopped n end is h = search rules

-- a script was run from the whole window on, as far as this session
module _ {Code : Type 0} {setting : Setting Code} {ns ms : List ℕ} {first t : State Code} {v : Window} {script : List ℕ} {last : Session Code} {old new : Option (List ℕ)} {Stays : Type 0} (from : v ≡ whole ns) (stays : Stays) where
  -- all lines were, and then there was the end of a run
  pub all_ran : (finish : Session Code → Session Code) (u : Window) (n : ℕ) (end : RunEnd) → AllRun setting script (session ns first v) last old new n → finish last ≡ session ms t u → end ≡ end_of n
      → Ends setting (session ns first (whole ns)) script (λ starved. let r = run_lines setting starved 0 (lines_of script) (session ns first (whole ns)) in (finish r.0, r.1)) ms t Stays old new end
  all_ran finish u n end all ends is = search (rules, ends_all)

  -- a line was the last one
  pub has_stopped : (ran : List ℕ → Session Code × List Reply) → HasStopped setting script (session ns first v) last old new → ms ≡ last.shape → t ≡ last.state
      → Ends setting (session ns first (whole ns)) script ran ms t Stays old new Write
  has_stopped ran stopped sizes states =
      subst (λ u. Ends setting (session ns first u) script ran ms t Stays old new Write) from
      (record { starved = stopped.0; ended = record { session = last; at_line = stopped.1; shape_is = sizes; state_is = states }; stays = stays })
