-- A line of a script and the reply that is written. What a sink exposes of its bytes is `Some`, else `None`.
use Rattle.std.specs.Prelude.{ℕ, ◌≡◌, Bool, false, List, Option, Some, None}
use Rattle.std.specs.Option.{option_to_list}
use Rattle.zf_dev.specs.Sink.{Appends, AppendsPart}
use Rattle.zf_cached.specs.Replies.{Reply, reply_text}
use Rattle.zf_cached.specs.Steps.{Setting, Session}
use Rattle.zf_cached.specs.Runs.{replies_text}
use Rattle.zf_commands.specs.Steps.{LeadsTo, is_refusal}

-- the reply, if any, is a refusal
abbrev pub refuses : Option Reply → Bool
refuses None = false
refuses (Some reply) = is_refusal reply

module _ {Code : Type 0} (setting : Setting Code) (before : Session Code) (line : List ℕ) (now : Session Code)
    (old new : Option (List ℕ)) where
  -- the line was run and its reply, if any, was written; this tells whether it was refused
  pub record Replies (refused : Bool) : Type 0 where
    pub reply : Option Reply
    pub leads : LeadsTo setting before line now reply
    pub written : Appends old new (replies_text (option_to_list reply))
    pub refused_is : refused ≡ refuses reply

  -- the line was run, and its reply was not written whole
  pub record Breaks : Type 0 where
    pub reply : Reply
    pub leads : LeadsTo setting before line now (Some reply)
    pub written : AppendsPart old new (reply_text reply)
