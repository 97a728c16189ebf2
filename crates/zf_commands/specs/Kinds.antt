-- Which command each is that is sorted by its kind.
use Rattle.std.specs.Prelude.{ℕ, ◌≡◌, length}
use Rattle.zf_cached.specs.Commands.{Command}
use Rattle.zf_cached.specs.Steps.{Session}
use Rattle.zf_script.specs.declared.command.Cmd.{Cmd}
use Rattle.zf_script.specs.declared.command.Cmd.TheVariants as cmds
use Rattle.zf_script.specs.Seen.{command_of, cmd_of}
use Rattle.zf_commands.specs.declared.kinds.Kind.{Kind}
use Rattle.zf_commands.specs.declared.kinds.Kind.TheVariants as kinds
use Rattle.zf_commands.specs.declared.kinds.ReadCmd.{ReadCmd}
use Rattle.zf_commands.specs.declared.kinds.ReadCmd.TheVariants as reads
use Rattle.zf_commands.specs.declared.kinds.WindowCmd.{WindowCmd}
use Rattle.zf_commands.specs.declared.kinds.WindowCmd.TheVariants as windows
use Rattle.zf_commands.specs.declared.kinds.WriteCmd.{WriteCmd}
use Rattle.zf_commands.specs.declared.kinds.WriteCmd.TheVariants as writes
use Rattle.zf_commands.specs.declared.kinds.ArrayCmd.{ArrayCmd}
use Rattle.zf_commands.specs.declared.kinds.ArrayCmd.TheVariants as arrays
use Rattle.zf_commands.specs.declared.kinds.ViewCmd.{ViewCmd}
use Rattle.zf_commands.specs.declared.kinds.ViewCmd.TheVariants as views

abbrev pub read_cmd : ReadCmd → Cmd
read_cmd (reads.Get p) = cmds.Get p
read_cmd reads.Sum = cmds.Sum
read_cmd (reads.Lines l) = cmds.Lines l
read_cmd reads.Stats = cmds.Stats

abbrev pub window_cmd : WindowCmd → Cmd
window_cmd (windows.View p s t) = cmds.View p s t
window_cmd (windows.Slice a i) = cmds.Slice a i
window_cmd (windows.Get p) = cmds.VGet p
window_cmd windows.Sum = cmds.VSum

abbrev pub write_cmd : WriteCmd → Cmd
write_cmd (writes.Set p v) = cmds.Set p v
write_cmd (writes.Add p v) = cmds.Add p v
write_cmd (writes.Fill v) = cmds.Fill v
write_cmd writes.Flush = cmds.Flush
write_cmd writes.Discard = cmds.Discard

abbrev pub array_cmd : ArrayCmd → Cmd
array_cmd (arrays.Set p v) = cmds.VSet p v
array_cmd (arrays.Resize count s) = cmds.Resize count s

abbrev pub view_cmd : ℕ → ViewCmd → Cmd
view_cmd i (views.Get p) = cmds.PGet i p
view_cmd i (views.Set p v) = cmds.PSet i p v
view_cmd i (views.Add p v) = cmds.PAdd i p v
view_cmd i views.Flush = cmds.PFlush i
view_cmd i views.Discard = cmds.PDiscard i
view_cmd i views.Stats = cmds.PStats i

abbrev pub cmd_of_kind : Kind → Cmd
cmd_of_kind (kinds.Read cmd) = read_cmd cmd
cmd_of_kind (kinds.Window cmd) = window_cmd cmd
cmd_of_kind (kinds.Write cmd) = write_cmd cmd
cmd_of_kind (kinds.Array cmd) = array_cmd cmd
cmd_of_kind (kinds.Split n l) = cmds.Split n l
cmd_of_kind kinds.Join = cmds.Join
cmd_of_kind (kinds.View i cmd) = view_cmd i cmd

-- the command that it is in a session
abbrev pub asked : {Code : Type 0} → Session Code → Cmd → Command
asked s cmd = command_of (length s.shape) cmd

-- coordinates along unused axes are 0, sizes and steps are 1
abbrev pub IsPlain : {Code : Type 0} → Session Code → Cmd → Type 0
IsPlain s cmd = cmd ≡ cmd_of (asked s cmd)
