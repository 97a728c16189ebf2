-- How the run of a script ends. What a sink exposes of its bytes is `Some`, else `None`.
use Rattle.std.specs.Prelude.{ℕ, zero, suc, ℤ, ◌≡◌, ◌≤◌, List, count_by, Option, Bool}
use Rattle.std.specs.Int.{Width}
use Rattle.zf_dev.specs.Sink.{Appends}
use Rattle.zf_cached.specs.State.{State}
use Rattle.zf_cached.specs.Windows.{whole}
use Rattle.zf_cached.specs.Replies.{Reply}
use Rattle.zf_cached.specs.Steps.{Setting, Session}
use Rattle.zf_cached.specs.Runs.{lines_of, run, replies_text}
use Rattle.zf_array.specs.Standing.{Held, shape, state}
use Rattle.zf_run.specs.declared.end.RunEnd.{RunEnd}
use Rattle.zf_run.specs.declared.end.RunEnd.TheVariants.{Done, Lines, Write}
use Rattle.zf_const.specs.Standing as read
use Rattle.zf_commands.specs.Runs.{AreStarved, StopsAt}
use Rattle.zf_run.specs.Sessions.{setting_of, start_of, run_of, kind, look_setting_of, look_start_of, look_of, stream_of}
use Rattle.zf_cache.specs.Kept.{Kept}
use Rattle.zf_store.specs.Stored.{Stored}
use Rattle.zf_run.specs.Pairs.{pair_state, pair_session, PairFits, two_setting_of}
use Rattle.zf_commands.specs.Steps.{is_refusal}

-- ---- what is left: an array of these sizes, in this state

module _ {Code : Type 0} (ns : List ℕ) (s : State Code) (starved : List ℕ) (old new : Option (List ℕ)) where
  -- all lines were run and each reply was written, where the lines of a script lead from a start to a session
  -- and replies; so many replies are refusals, and the lines that were out of memory are just those that say
  -- so
  pub record Completes (setting : Setting Code) (start : Session Code) (script : List ℕ)
      (ran : Session Code × List Reply) (refused : ℕ) : Type 0 where
    pub shape_is : ns ≡ ran.0.shape
    pub state_is : s ≡ ran.0.state
    pub starved_are : AreStarved setting starved (lines_of script) start
    pub refused_is : refused ≡ count_by is_refusal ran.1
    pub written : Appends old new (replies_text ran.1)

  -- a line's reply was not written whole: no later line was run
  pub record Halts (setting : Setting Code) (start : Session Code) (script : List ℕ) : Type 0 where
    pub session : Session Code
    pub at_line : StopsAt setting starved script start session old new
    pub shape_is : ns ≡ session.shape
    pub state_is : s ≡ session.state

-- what an end says: all lines were run, with so many refusals, or they were not
abbrev pub IsEnd : (ℕ → Type 0) → Type 0 → RunEnd → Type 0
IsEnd all stopped Done = all 0
IsEnd all stopped (Lines n) = (1 ≤ n) × all n
IsEnd all stopped Write = stopped

-- the end where all lines were run
abbrev pub end_of : ℕ → RunEnd
end_of zero = Done
end_of (suc n) = Lines (suc n)

-- a script was run from a start, where its lines lead to `ran`, if those with these numbers are out of memory;
-- what is left is an array of these sizes in this state, and `Stays` holds
pub record Ends {Code : Type 0} (setting : Setting Code) (start : Session Code) (script : List ℕ)
    (ran : List ℕ → Session Code × List Reply) (ns : List ℕ) (s : State Code) (Stays : Type 0)
    (old new : Option (List ℕ)) (end : RunEnd) : Type 0 where
  pub starved : List ℕ
  pub ended : IsEnd (Completes ns s starved old new setting start script (ran starved))
      (Halts ns s starved old new setting start script) end
  pub stays : Stays

-- a script was run over an array that is read and written. Where all lines were, it was flushed then
abbrev pub Runs : Width → Held → Held → List ℕ → Option (List ℕ) → Option (List ℕ) → RunEnd → Type 0
Runs w before now script old new end =
    Ends (setting_of w before) (start_of before) script (λ starved. run_of w before starved script)
    (shape now) (state now) (kind now ≡ kind before) old new end

-- a script was run over an array that is only read
abbrev pub Looks : Width → read.Held → read.Held → List ℕ → Option (List ℕ) → Option (List ℕ) → RunEnd
    → Type 0
Looks w before now script old new end =
    Ends (look_setting_of w before.header) (look_start_of before) script
    (λ starved. look_of w before starved script) (read.shape now) (read.state now)
    (stream_of now ≡ stream_of before) old new end

module _ {X : Type 0} (value : X → ℤ) (w : Width) (s t : Stored) (c d : Kept X) where
  -- what a run over a store and a two-way cache begins with
  abbrev pub two_start_of : Session (List Bool)
  two_start_of = pair_session value s c (whole s.header.shape)

  -- a script was run over the two. Where all lines were, the cache was flushed then
  abbrev pub RunsTwo : List ℕ → Option (List ℕ) → Option (List ℕ) → RunEnd → Type 0
  RunsTwo script old new end =
      Ends (two_setting_of w s.header) two_start_of script
      (λ starved. run (two_setting_of w s.header) starved s.header.shape (pair_state value s c) script)
      t.header.shape (pair_state value t d) ((t.header ≡ s.header) × PairFits value t d) old new end
