-- What a script works on, as its lines find it, and how the run of a script over it ends.
use Rattle.std.specs.Prelude.{◌≡◌, ℕ, ℤ, Bool, List, length, Option, Some, None, vec_len}
use Rattle.std.specs.Int.{Width}
use Rattle.zf_header.specs.HeaderBits.{block_bits, rate_bytes_of}
use Rattle.zf_cached.specs.Windows.{whole}
use Rattle.zf_cached.specs.Arrays.{saved_file}
use Rattle.zf_cached.specs.Replies.{Reply}
use Rattle.zf_cached.specs.Steps.{Setting, Session}
use Rattle.zf_cached.specs.Runs.{lines_of, run_lines, ended}
use Rattle.zf_cache.specs.Kept.{IsEmpty}
use Rattle.zf_commands.specs.Sittings.{session}
use Rattle.zf_commands.specs.Runs.{RunsAll, StopsAt}
use Rattle.zf_run.specs.declared.end.RunEnd.{RunEnd}
use Rattle.zf_run.specs.Ends.{IsEnd}
use Rattle.zf_run.specs.Pairs.{pair_state, two_setting_of}
use Rattle.zf_run.specs.Sessions.{setting_of, start_of, look_setting_of, look_start_of}
use Rattle.zf_program.specs.declared.commands.target.Target.{Target}
use Rattle.zf_program.specs.declared.commands.target.Target.TheVariants.{Direct, TwoWay, Look}

-- what no line changes, what the first one finds, and the file that is saved, if any, of what the last one
-- leaves
pub record Subject : Type 0 where
  pub setting : Setting (List Bool)
  pub start : Session (List Bool)
  pub filed : Session (List Bool) → Option (List ℕ)

-- a target as a subject: by the numbers that its values stand for, and by their width
abbrev pub subject : {X : Type 0} {d : ℕ} → (X → ℤ) → Width → Target X d → Subject
subject value w (Direct a) = record {
  setting = setting_of w a;
  start = start_of a;
  filed = λ s. Some (saved_file w (block_bits a.header.mode) s.shape s.state);
}
subject value w (TwoWay pair) = record {
  setting = two_setting_of w pair.store.header;
  start = session pair.store.header.shape (pair_state value pair.store pair.cache)
      (whole pair.store.header.shape);
  filed = λ s. Some (saved_file w (block_bits pair.store.header.mode) s.shape s.state);
}
subject value w (Look a) = record {
  setting = look_setting_of w a.header;
  start = look_start_of a;
  filed = λ s. None;
}

-- no line has been run on it: the cache is empty, where a run asks for that
abbrev pub IsFresh : {X : Type 0} {d : ℕ} → Target X d → Type 0
IsFresh (TwoWay pair) = IsEmpty pair.cache (length pair.cache.tags)
IsFresh (Direct a) = Unit {0}
IsFresh (Look a) = Unit {0}

-- it can be saved: there is room for its file
abbrev pub HasRoom : {X : Type 0} {d : ℕ} → Target X d → Type 0
HasRoom (TwoWay pair) = vec_len pair.file ≡ rate_bytes_of pair.store.header
HasRoom (Direct a) = Unit {0}
HasRoom (Look a) = Unit {0}

module _ (s : Subject) where
  -- the file that is saved of it as it stands
  abbrev pub filed_now : Option (List ℕ)
  filed_now = s.filed s.start

  -- the run of all lines of a script, of which these starved: what it leads to, and the replies
  abbrev pub ran_all : List ℕ → List ℕ → Session (List Bool) × List Reply
  ran_all starved script = run_lines s.setting starved 0 (lines_of script) s.start

  -- a script was run on it. Where all lines were, this is the file of what they left, if any, once the run
  -- ended
  pub record Ran (script : List ℕ) (old new : Option (List ℕ)) (file : Option (List ℕ)) (end : RunEnd) : Type
      0 where
    pub starved : List ℕ
    pub last : Session (List Bool)
    pub how : IsEnd (λ refused. RunsAll s.setting starved script s.start last old new refused
        × (file ≡ s.filed (ended s.setting last))) (StopsAt s.setting starved script s.start last old new) end
