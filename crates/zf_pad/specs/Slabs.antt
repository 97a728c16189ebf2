-- A slab of an array: the values between two rows of its last axis. It is an array of its own: its values
-- stand beside one another, and its blocks have consecutive numbers.
use Rattle.std.specs.Prelude.{ℕ, ◌≡◌, ◌+◌, ◌*◌, ◌%◌, ◌≤◌, ◌⊎◌, ℤ, List, [], ◌∷◌, length, take, drop}
use Rattle.zf_spec.specs.Grid.{grid}

-- how many rows there are: the size along the last axis, in one dimension the number of values
abbrev pub rows_of : List ℕ → ℕ
rows_of [] = 0
rows_of (n ∷ []) = n
rows_of (n ∷ m ∷ ns) = rows_of (m ∷ ns)

-- how many values a row has
abbrev pub row_len : List ℕ → ℕ
row_len [] = 1
row_len (n ∷ []) = 1
row_len (n ∷ m ∷ ns) = n * row_len (m ∷ ns)

-- the sizes of an array with so many rows
abbrev pub with_rows : ℕ → List ℕ → List ℕ
with_rows rows [] = []
with_rows rows (n ∷ []) = rows ∷ []
with_rows rows (n ∷ m ∷ ns) = n ∷ with_rows rows (m ∷ ns)

-- a position so many rows on
abbrev pub rows_on : ℕ → List ℕ → List ℕ
rows_on r [] = []
rows_on r (p ∷ []) = (r + p) ∷ []
rows_on r (p ∷ q ∷ ps) = p ∷ rows_on r (q ∷ ps)

-- the rows from row 4 * c on, so many, cut no block along the last axis
pub record IsSlab (ns : List ℕ) (c rows : ℕ) : Type 0 where
  pub some_axis : 1 ≤ length ns
  pub within : 4 * c + rows ≤ rows_of ns
  pub whole : (rows % 4 ≡ 0) ⊎ (4 * c + rows ≡ rows_of ns)

-- the values of these rows
abbrev pub slab_of : List ℕ → List ℤ → ℕ → ℕ → List ℤ
slab_of ns values c rows = take (row_len ns * rows) (drop (row_len ns * (4 * c)) values)

-- the number of the first block of these rows
abbrev pub first_block : List ℕ → ℕ → ℕ
first_block ns c = row_len (grid ns) * c
