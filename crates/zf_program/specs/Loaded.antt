-- What a command has loaded: the file of the shelf, and what it is opened as for a script.
use Rattle.std.specs.Prelude.{◌≡◌, ℕ, ◌≤◌, ◌⊎◌, List, length, Option, Ok, Err}
use Rattle.zf_dev.specs.Shelf.{Files, HasFile}
use Rattle.zf_parse.specs.Parsing.{Said}
use Rattle.zf_index.specs.Files.{HasHeader}
use Rattle.zf_cached.specs.Arrays.{max_file}
use Rattle.zf_cached.specs.Runs.{lines_of, ended}
use Rattle.zf_commands.specs.Runs.{starved_lines}
use Rattle.zf_words.specs.declared.command.Access.{Access}
use Rattle.zf_program.specs.declared.commands.target.Loaded.{Loaded}
use Rattle.zf_program.specs.declared.status.Status.{Status}
use Rattle.zf_program.specs.declared.status.Status.TheVariants.{Header, NotRate, Truncated, Pad, Trailing, Memory}
use Rattle.zf_program.specs.Accesses.{IsAccess, Admits, reading_of, answers_of, file_of}
use Rattle.zf_program.specs.Subjects.{Subject, ran_all}

-- the file of this name has these bytes, and not more than a file may have
pub record HoldsFile (known : Option Files) (name bytes : List ℕ) : Type 0 where
  pub held : HasFile known name bytes
  pub size : length bytes ≤ max_file

-- a file with these bytes is opened, and a script does with the subject what it does, by its access, with
-- what the file says
pub record StandsFor (s : Subject) (access : Access) (bytes : List ℕ) : Type 0 where
  pub said : Said
  pub opened : reading_of access bytes ≡ Ok said
  pub replies : (starved script : List ℕ) → (ran_all s starved script).1
      ≡ (answers_of access said starved script).0
  pub starved : (starved script : List ℕ) → starved_lines s.setting starved 0 (lines_of script) s.start
      ≡ (answers_of access said starved script).1
  pub file : (starved script : List ℕ) → s.filed (ended s.setting (ran_all s starved script).0)
      ≡ file_of access said starved script

-- a file that was loaded may be refused so
abbrev pub RefusesFile : Status → Type 0
RefusesFile (Header fault) = Unit {0}
RefusesFile (NotRate m) = Unit {0}
RefusesFile (Truncated b) = Unit {0}
RefusesFile Pad = Unit {0}
RefusesFile Trailing = Unit {0}
RefusesFile Memory = Unit {0}
RefusesFile status = ⊥

-- a file with these bytes is not opened, as the status says, or there was no memory for it
pub record IsRefused (access : Access) (bytes : List ℕ) (status : Status) : Type 0 where
  pub refusal : RefusesFile status
  pub why : (reading_of access bytes ≡ Err status) ⊎ (status ≡ Memory)

-- what was loaded begins with the header that was read of it, and its mode is one that the access admits
pub record IsAccessed (access : Access) (loaded : Loaded) : Type 0 where
  pub lines : IsAccess access
  pub header : HasHeader loaded.file.items loaded.header
  pub mode : Admits access loaded.header.mode
