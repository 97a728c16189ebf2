-- The array that is measured.
use Rattle.std.specs.Prelude.{ℕ, List, [], ◌∷◌}

-- its sizes
abbrev pub square : List ℕ
square = 1024 ∷ 1024 ∷ []
