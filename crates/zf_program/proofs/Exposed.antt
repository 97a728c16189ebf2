-- A world that explains what devices expose.
use Rattle.std.proofs.Common.{◌≡◌, ℕ, List, [], Option, Some, None, refl, rules}
use Rattle.zf_dev.{specs.Shelf.{Files, LacksFile, KeepsFiles}, specs.Source.{Takes, IsAtEnd}}
use Rattle.zf_program.specs.World.{World, ExposesInput, ExposesFiles}

-- the files that are exposed; none where they are not
pub files_of : Option Files → Files
files_of None name = None
files_of (Some files) name = files name

pub files_of-none : (known : Option Files) (name : List ℕ) → LacksFile known name → files_of known name ≡ None
unfolding files_of
files_of-none _ name lacks = search rules

-- an input beside the files that are exposed
abbrev pub world_of : List ℕ → Option Files → World
world_of input known = record { input = input; files = files_of known }

pub ExposesFiles-same : (known : Option Files) → ExposesFiles known (files_of known)
unfolding files_of
ExposesFiles-same _ = search rules

-- no file changed
pub KeepsFiles-none : (known : Option Files) → KeepsFiles known known
KeepsFiles-none _ = search rules

-- what was taken to the end is the input that is exposed
pub ExposesInput-taken : (known now : Option (List ℕ)) (bytes : List ℕ) → Takes known now bytes → IsAtEnd now → ExposesInput known bytes
ExposesInput-taken _ now bytes taken ended = search rules

-- nothing was taken
pub Takes-none : (known : Option (List ℕ)) → Takes known known []
Takes-none _ = search rules

-- some input is exposed
pub some_input : (known : Option (List ℕ)) → (input : List ℕ) × ExposesInput known input
some_input None = ([], tt)
some_input (Some all) = (all, refl)
