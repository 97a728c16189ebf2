-- The digits of a run, in code: each one is followed by a group bit of one, as long as more ones come.
use Rattle.std.specs.Prelude.{Bool, true, false, List, [], ◌∷◌}

-- each one doubled
abbrev pub doubled : List Bool → List Bool
doubled [] = []
doubled (true ∷ ds) = true ∷ true ∷ doubled ds
doubled (false ∷ ds) = false ∷ doubled ds
