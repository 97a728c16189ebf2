-- Lists that are whole blocks.
use Rattle.std.specs.Prelude.{ℕ, ◌≡◌, ◌^◌, List, length}
use Rattle.zf_spec.specs.Grid.{IsDimension}

-- a list has a value for each place of a block of one to four dimensions
abbrev pub IsBlockOf : {A : Type 0} → ℕ → List A → Type 0
IsBlockOf d block = IsDimension d × (length block ≡ 4 ^ d)
