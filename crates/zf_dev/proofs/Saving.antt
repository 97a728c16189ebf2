-- The files of a shelf in memory after one of them was put there.
use Rattle.std.proofs.Common.{◌≡◌, ℕ, List, Option, Some, Vec, Global, rules}
use Rattle.std.{specs.Option.{option_map}, specs.Str.{bytes_eq}, specs.Map.{update}}
use Rattle.zf_dev.specs.Shelf.{SavesFile}

-- the bytes under each name, of what is kept there
abbrev pub files_of : (List ℕ → Option (Vec ℕ Global)) → List ℕ → Option (List ℕ)
files_of kept name = option_map (λ file. file.items) (kept name)

-- where the text of the key is the name, and what was put there has these bytes, the file is saved
pub SavesFile-put : (before now : List ℕ → Option (Vec ℕ Global)) (key name bytes : List ℕ) (file : Vec ℕ Global) → key ≡ name → file.items ≡ bytes → ((other : List ℕ) → now other ≡ update bytes_eq before key (Some file) other)
    → SavesFile (Some (files_of before)) (Some (files_of now)) name bytes
SavesFile-put before now key name bytes file is held updates = search rules
