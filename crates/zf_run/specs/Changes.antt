-- A change of the value at a position: it is added to, or another is put there.
use Rattle.std.specs.Prelude.{ℕ, ℤ, List}
use Rattle.zf_cached.specs.Acts.{Act}
use Rattle.zf_cached.specs.Commands.{Command}
use Rattle.zf_run.specs.declared.views.Change.{Change}
use Rattle.zf_run.specs.declared.views.Change.TheVariants as changes

-- the command of view i
abbrev pub change_cmd : Change → ℕ → List ℕ → ℤ → Command
change_cmd changes.Add i ps v = Command.padd i ps v
change_cmd changes.Put i ps v = Command.pset i ps v

-- what it does to the value at place p of block b
abbrev pub change_act : Change → ℕ → ℕ → ℤ → Act
change_act changes.Add b p v = Act.add b p v
change_act changes.Put b p v = Act.set b p v
