-- The names of files.
use Rattle.std.specs.Prelude.{◌≡◌, ℕ, ◌≤◌, ◌==◌, ◌||◌, Bool, true, false, List, [], ◌∷◌, length}
use Rattle.std.specs.List.{list_all}
use Rattle.std.specs.Char.{is_ascii_alphanumeric}

-- a letter, a digit, or one of `_`, `.` and `-`
abbrev pub is_name_byte : ℕ → Bool
is_name_byte b = is_ascii_alphanumeric b || (b == 95) || (b == 46) || (b == 45)

-- a letter or a digit comes first
abbrev pub begins_name : List ℕ → Bool
begins_name [] = false
begins_name (b ∷ bs) = is_ascii_alphanumeric b

-- the name of a file
pub record IsName (bytes : List ℕ) : Type 0 where
  pub begins : begins_name bytes ≡ true
  pub letters : list_all is_name_byte bytes ≡ true
  pub short : length bytes ≤ 64
