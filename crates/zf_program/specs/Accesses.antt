-- What a script does with a file by its access: which command it is, what the file is opened as, how the
-- script is answered, and what is saved.
use Rattle.std.specs.Prelude.{ℕ, Bool, true, false, List, Option, Some, None, Result}
use Rattle.zf_header.specs.declared.header.Mode.{Mode}
use Rattle.zf_header.specs.declared.header.Mode.TheVariants.{Rate}
use Rattle.zf_header.specs.HeaderBits.{IsRate}
use Rattle.zf_parse.specs.Parsing.{Said}
use Rattle.zf_words.specs.declared.command.Access.{Access}
use Rattle.zf_words.specs.declared.command.Access.TheVariants.{Run, Look}
use Rattle.zf_words.specs.declared.command.Command.{Command}
use Rattle.zf_words.specs.declared.command.Command.TheVariants as commands
use Rattle.zf_program.specs.declared.status.Status.{Status}
use Rattle.zf_words.specs.Words.{IsLines, IsCaching}
use Rattle.zf_program.specs.Opened.{array_in, stream_in}
use Rattle.zf_program.specs.Scripts.{Answering, run_answers, run_file, look_answers}

-- the number of lines, where there is one, is in range
abbrev pub IsAccess : Access → Type 0
IsAccess (Run caching) = IsCaching caching
IsAccess (Look lines) = IsLines lines

-- the command, on the file of this name
abbrev pub command_on : Access → List ℕ → Command
command_on (Run caching) name = commands.Run name caching
command_on (Look lines) name = commands.Look name lines

-- a stream of this mode may be accessed so: an array has a fixed rate
abbrev pub Admits : Access → Mode → Type 0
Admits (Run caching) mode = IsRate mode
Admits (Look lines) mode = Unit {0}

abbrev pub admits : Access → Mode → Bool
admits (Look lines) mode = true
admits (Run caching) (Rate b) = true
admits (Run caching) mode = false

-- what these bytes are opened as
abbrev pub reading_of : Access → List ℕ → Result Said Status
reading_of (Run caching) = array_in
reading_of (Look lines) = stream_in

-- how the script is answered
abbrev pub answers_of : Access → Answering
answers_of (Run caching) = run_answers caching
answers_of (Look lines) = look_answers lines

-- the file that is saved, if any
abbrev pub file_of : Access → Said → List ℕ → List ℕ → Option (List ℕ)
file_of (Run caching) said starved script = Some (run_file caching said starved script)
file_of (Look lines) said starved script = None

-- a file, if any, under a name
abbrev pub named : List ℕ → Option (List ℕ) → Option (List ℕ × List ℕ)
named name None = None
named name (Some bytes) = Some (name, bytes)
