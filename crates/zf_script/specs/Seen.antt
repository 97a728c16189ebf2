-- How commands, replies and refusals are seen as those of the language.
use Rattle.std.specs.Prelude.{ℕ, ◌≡◌, List, length, IsTrue}
use Rattle.zf_base.specs.Positions.{used_axes, with_unused}
use Rattle.zf_cached.specs.Commands.{Command}
use Rattle.zf_cached.specs.Grammar.{words_of, is_writable}
use Rattle.zf_cached.specs.Replies as script
use Rattle.zf_script.specs.declared.command.Cmd.{Cmd}
use Rattle.zf_script.specs.declared.command.Cmd.TheVariants as cmds
use Rattle.zf_script.specs.declared.reply.Refusal.{Refusal}
use Rattle.zf_script.specs.declared.reply.Refusal.TheVariants as refusals
use Rattle.zf_script.specs.declared.reply.Reply.{Reply}
use Rattle.zf_script.specs.declared.reply.Reply.TheVariants as replies

-- the command that this is in d dimensions: its numbers along the used axes
abbrev pub command_of : ℕ → Cmd → Command
command_of d (cmds.Get p) = Command.get (used_axes d p)
command_of d (cmds.Set p v) = Command.set (used_axes d p) v
command_of d (cmds.Add p v) = Command.add (used_axes d p) v
command_of d (cmds.Fill v) = Command.fill v
command_of d cmds.Sum = Command.sum
command_of d (cmds.View p s t) = Command.view (used_axes d p) (used_axes d s) (used_axes d t)
command_of d (cmds.Slice a i) = Command.slice a i
command_of d (cmds.VGet p) = Command.vget (used_axes d p)
command_of d (cmds.VSet p v) = Command.vset (used_axes d p) v
command_of d cmds.VSum = Command.vsum
command_of d cmds.Flush = Command.flush
command_of d cmds.Discard = Command.discard
command_of d (cmds.Lines l) = Command.lines l
command_of d (cmds.Resize count s) = Command.resize (used_axes count s)
command_of d cmds.Stats = Command.stats
command_of d (cmds.Split n l) = Command.split n l
command_of d cmds.Join = Command.join
command_of d (cmds.PGet i p) = Command.pget i (used_axes d p)
command_of d (cmds.PSet i p v) = Command.pset i (used_axes d p) v
command_of d (cmds.PAdd i p v) = Command.padd i (used_axes d p) v
command_of d (cmds.PFlush i) = Command.pflush i
command_of d (cmds.PDiscard i) = Command.pdiscard i
command_of d (cmds.PStats i) = Command.pstats i

-- a command in this form: coordinates along unused axes are 0, sizes and steps are 1
abbrev pub cmd_of : Command → Cmd
cmd_of (Command.get p) = cmds.Get (with_unused 0 p)
cmd_of (Command.set p v) = cmds.Set (with_unused 0 p) v
cmd_of (Command.add p v) = cmds.Add (with_unused 0 p) v
cmd_of (Command.fill v) = cmds.Fill v
cmd_of Command.sum = cmds.Sum
cmd_of (Command.view p s t) = cmds.View (with_unused 0 p) (with_unused 1 s) (with_unused 1 t)
cmd_of (Command.slice a i) = cmds.Slice a i
cmd_of (Command.vget p) = cmds.VGet (with_unused 0 p)
cmd_of (Command.vset p v) = cmds.VSet (with_unused 0 p) v
cmd_of Command.vsum = cmds.VSum
cmd_of Command.flush = cmds.Flush
cmd_of Command.discard = cmds.Discard
cmd_of (Command.lines l) = cmds.Lines l
cmd_of (Command.resize s) = cmds.Resize (length s) (with_unused 1 s)
cmd_of Command.stats = cmds.Stats
cmd_of (Command.split n l) = cmds.Split n l
cmd_of Command.join = cmds.Join
cmd_of (Command.pget i p) = cmds.PGet i (with_unused 0 p)
cmd_of (Command.pset i p v) = cmds.PSet i (with_unused 0 p) v
cmd_of (Command.padd i p v) = cmds.PAdd i (with_unused 0 p) v
cmd_of (Command.pflush i) = cmds.PFlush i
cmd_of (Command.pdiscard i) = cmds.PDiscard i
cmd_of (Command.pstats i) = cmds.PStats i

-- these are the words of the command in d dimensions
pub record IsCommand (d : ℕ) (words : List (List ℕ)) (cmd : Cmd) : Type 0 where
  pub writable : IsTrue (is_writable d (command_of d cmd))
  pub text : words ≡ words_of (command_of d cmd)
  pub others : cmd ≡ cmd_of (command_of d cmd)

-- these are the words of no command
abbrev pub IsNoCommand : ℕ → List (List ℕ) → Type 0
IsNoCommand d words = (c : Command) → IsTrue (is_writable d c) → words ≡ words_of c → ⊥

-- the refusal that this is
abbrev pub refusal_of : Refusal → script.Refusal
refusal_of refusals.Word = script.Refusal.word
refusal_of refusals.Split = script.Refusal.split
refusal_of refusals.Size = script.Refusal.size
refusal_of refusals.Range = script.Refusal.range
refusal_of refusals.Value = script.Refusal.value
refusal_of refusals.Memory = script.Refusal.memory

-- the reply that this is
abbrev pub reply_of : Reply → script.Reply
reply_of (replies.Number n) = script.Reply.number n
reply_of (replies.Counts counts) = script.Reply.counts counts.hits counts.misses counts.writes
reply_of (replies.Refused why) = script.Reply.refused (refusal_of why)
