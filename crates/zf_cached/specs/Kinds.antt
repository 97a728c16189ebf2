-- The kinds of commands. Each command is sorted once, here: what refuses it, what it does, what a setting
-- allows, and what needs a split, go by the kind.
use Rattle.std.specs.Prelude.{ℕ, ℤ, Bool, true, false, List}
use Rattle.zf_cached.specs.Commands.{Command}

-- one value of the array or all are read, or the cache is looked after: nothing that is stored changes
pub data ReadCommand : Type 0 where
  get : List ℕ → ReadCommand
  sum : ReadCommand
  lines : ℕ → ReadCommand
  stats : ReadCommand

-- on the window, or read through it
pub data WindowCommand : Type 0 where
  view : List ℕ → List ℕ → List ℕ → WindowCommand
  slice : ℕ → ℕ → WindowCommand
  get : List ℕ → WindowCommand
  sum : WindowCommand

-- one value of the array or all are changed, or what is not written back is written, or dropped
pub data WriteCommand : Type 0 where
  set : List ℕ → ℤ → WriteCommand
  add : List ℕ → ℤ → WriteCommand
  fill : ℤ → WriteCommand
  flush : WriteCommand
  discard : WriteCommand

-- a change through the window, or of the sizes
pub data ArrayCommand : Type 0 where
  set : List ℕ → ℤ → ArrayCommand
  resize : List ℕ → ArrayCommand

-- on one view: one value, its cache, its counts
pub data ViewCommand : Type 0 where
  get : List ℕ → ViewCommand
  set : List ℕ → ℤ → ViewCommand
  add : List ℕ → ℤ → ViewCommand
  flush : ViewCommand
  discard : ViewCommand
  stats : ViewCommand

pub data Kind : Type 0 where
  read : ReadCommand → Kind
  window : WindowCommand → Kind
  write : WriteCommand → Kind
  array : ArrayCommand → Kind
  -- the array is split: into how many views, and how many lines each has; the split ends; on this view
  split : ℕ → ℕ → Kind
  join : Kind
  view : ℕ → ViewCommand → Kind

abbrev pub kind_of : Command → Kind
kind_of (Command.get ps) = Kind.read (ReadCommand.get ps)
kind_of (Command.set ps v) = Kind.write (WriteCommand.set ps v)
kind_of (Command.add ps v) = Kind.write (WriteCommand.add ps v)
kind_of (Command.fill v) = Kind.write (WriteCommand.fill v)
kind_of Command.sum = Kind.read ReadCommand.sum
kind_of (Command.view origin size step) = Kind.window (WindowCommand.view origin size step)
kind_of (Command.slice axis at) = Kind.window (WindowCommand.slice axis at)
kind_of (Command.vget ps) = Kind.window (WindowCommand.get ps)
kind_of (Command.vset ps v) = Kind.array (ArrayCommand.set ps v)
kind_of Command.vsum = Kind.window WindowCommand.sum
kind_of Command.flush = Kind.write WriteCommand.flush
kind_of Command.discard = Kind.write WriteCommand.discard
kind_of (Command.lines l) = Kind.read (ReadCommand.lines l)
kind_of (Command.resize ns) = Kind.array (ArrayCommand.resize ns)
kind_of Command.stats = Kind.read ReadCommand.stats
kind_of (Command.split n l) = Kind.split n l
kind_of Command.join = Kind.join
kind_of (Command.pget i ps) = Kind.view i (ViewCommand.get ps)
kind_of (Command.pset i ps v) = Kind.view i (ViewCommand.set ps v)
kind_of (Command.padd i ps v) = Kind.view i (ViewCommand.add ps v)
kind_of (Command.pflush i) = Kind.view i ViewCommand.flush
kind_of (Command.pdiscard i) = Kind.view i ViewCommand.discard
kind_of (Command.pstats i) = Kind.view i ViewCommand.stats

-- the kinds of an array that is only read
abbrev pub is_reading : Kind → Bool
is_reading (Kind.read c) = true
is_reading (Kind.window c) = true
is_reading _ = false

-- the kinds of an array with no window
abbrev pub is_windowless : Kind → Bool
is_windowless (Kind.read c) = true
is_windowless (Kind.write c) = true
is_windowless _ = false

-- the kinds of an array that is split: where there is a split there are no others, and else these are none
abbrev pub is_of_split : Kind → Bool
is_of_split Kind.join = true
is_of_split (Kind.view i c) = true
is_of_split _ = false
