-- Commands and their kinds.
use Rattle.std.proofs.Common.{◌≡◌, refl, ap, subst, ◌∙◌, ℕ, Bool, false, length, rules}
use Rattle.zf_cached.specs.Kinds as sorts
use Rattle.zf_base.specs.Positions.{used_axes}
use Rattle.zf_cached.{specs.Kinds.{is_reading, is_windowless, is_of_split}, specs.Steps.{Session}}
use Rattle.zf_script.{specs.declared.command.Cmd.{Cmd}, specs.Seen.{command_of}}
use Rattle.zf_commands.{specs.declared.kinds.Kind.{Kind}, specs.declared.kinds.ReadCmd.{ReadCmd}}
use Rattle.zf_commands.{specs.declared.kinds.WindowCmd.{WindowCmd}, specs.declared.kinds.WriteCmd.{WriteCmd}}
use Rattle.zf_commands.{specs.declared.kinds.ArrayCmd.{ArrayCmd}, specs.declared.kinds.ViewCmd.{ViewCmd}}
use Rattle.zf_commands.specs.Kinds.{cmd_of_kind, asked, IsPlain}
use Rattle.zf_commands.specs.declared.kinds.Kind.TheVariants as kinds
use Rattle.zf_commands.specs.declared.kinds.ReadCmd.TheVariants as reads
use Rattle.zf_commands.specs.declared.kinds.WindowCmd.TheVariants as windows
use Rattle.zf_commands.specs.declared.kinds.WriteCmd.TheVariants as writes
use Rattle.zf_commands.specs.declared.kinds.ArrayCmd.TheVariants as arrays
use Rattle.zf_commands.specs.declared.kinds.ViewCmd.TheVariants as views

-- the kind, as the language has it in d dimensions
abbrev read_sort : ℕ → ReadCmd → sorts.ReadCommand
read_sort d (reads.Get p) = sorts.ReadCommand.get (used_axes d p)
read_sort d reads.Sum = sorts.ReadCommand.sum
read_sort d (reads.Lines l) = sorts.ReadCommand.lines l
read_sort d reads.Stats = sorts.ReadCommand.stats

abbrev window_sort : ℕ → WindowCmd → sorts.WindowCommand
window_sort d (windows.View p s t) = sorts.WindowCommand.view (used_axes d p) (used_axes d s) (used_axes d t)
window_sort d (windows.Slice a i) = sorts.WindowCommand.slice a i
window_sort d (windows.Get p) = sorts.WindowCommand.get (used_axes d p)
window_sort d windows.Sum = sorts.WindowCommand.sum

abbrev write_sort : ℕ → WriteCmd → sorts.WriteCommand
write_sort d (writes.Set p v) = sorts.WriteCommand.set (used_axes d p) v
write_sort d (writes.Add p v) = sorts.WriteCommand.add (used_axes d p) v
write_sort d (writes.Fill v) = sorts.WriteCommand.fill v
write_sort d writes.Flush = sorts.WriteCommand.flush
write_sort d writes.Discard = sorts.WriteCommand.discard

abbrev array_sort : ℕ → ArrayCmd → sorts.ArrayCommand
array_sort d (arrays.Set p v) = sorts.ArrayCommand.set (used_axes d p) v
array_sort d (arrays.Resize count s) = sorts.ArrayCommand.resize (used_axes count s)

abbrev view_sort : ℕ → ViewCmd → sorts.ViewCommand
view_sort d (views.Get p) = sorts.ViewCommand.get (used_axes d p)
view_sort d (views.Set p v) = sorts.ViewCommand.set (used_axes d p) v
view_sort d (views.Add p v) = sorts.ViewCommand.add (used_axes d p) v
view_sort d views.Flush = sorts.ViewCommand.flush
view_sort d views.Discard = sorts.ViewCommand.discard
view_sort d views.Stats = sorts.ViewCommand.stats

abbrev pub sort_of : ℕ → Kind → sorts.Kind
sort_of d (kinds.Read cmd) = sorts.Kind.read (read_sort d cmd)
sort_of d (kinds.Window cmd) = sorts.Kind.window (window_sort d cmd)
sort_of d (kinds.Write cmd) = sorts.Kind.write (write_sort d cmd)
sort_of d (kinds.Array cmd) = sorts.Kind.array (array_sort d cmd)
sort_of d (kinds.Split n l) = sorts.Kind.split n l
sort_of d kinds.Join = sorts.Kind.join
sort_of d (kinds.View i cmd) = sorts.Kind.view i (view_sort d cmd)

pub sorted : (d : ℕ) (k : Kind) → sorts.kind_of (command_of d (cmd_of_kind k)) ≡ sort_of d k
sorted d k = search rules

-- what holds of a command by its kind
pub by_kind : {Code : Type 0} (s : Session Code) (k : Kind) (test : sorts.Kind → Bool) (t : Bool) → test (sort_of (length s.shape) k) ≡ t → test (sorts.kind_of (asked s (cmd_of_kind k))) ≡ t
by_kind s k test t is = ap test (sorted (length s.shape) k) ∙ is

pub same_plain : {Code : Type 0} (s : Session Code) (a b : Cmd) → a ≡ b → IsPlain s a → IsPlain s b
same_plain s a b is plain = subst (IsPlain s) is plain

-- those that an array which is only read refuses, and those that one with no window does, and one that is whole, and one that is split
pub not_reading : (d : ℕ) (k : Kind) → ((c : ReadCmd) → k ≡ kinds.Read c → ⊥) → ((c : WindowCmd) → k ≡ kinds.Window c → ⊥) → is_reading (sort_of d k) ≡ false
not_reading d x read window = search rules

pub not_windowless : (d : ℕ) (k : Kind) → ((c : ReadCmd) → k ≡ kinds.Read c → ⊥) → ((c : WriteCmd) → k ≡ kinds.Write c → ⊥) → is_windowless (sort_of d k) ≡ false
not_windowless d x read write = search rules

pub not_of_split : (d : ℕ) (k : Kind) → (k ≡ kinds.Join → ⊥) → ((i : ℕ) (c : ViewCmd) → k ≡ kinds.View i c → ⊥) → is_of_split (sort_of d k) ≡ false
not_of_split d kinds.Join join view = absurd (join refl)
not_of_split d (kinds.View i c) join view = absurd (view i c refl)
not_of_split d x join view = refl
