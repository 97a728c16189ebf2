-- What becomes of one line of a block.
use Rattle.std.specs.Prelude.{ℕ, ◌≡◌, ◌≢◌, ◌+◌, ◌*◌, ◌%◌, ◌<◌, ℤ, pos, List, length, slice_index_or}

-- the n values of a block are whole lines along an axis on which neighbours are so many places apart
abbrev pub AreLines : {A : Type 0} → ℕ → ℕ → List A → Type 0
AreLines step n block = (0 < step) × (n ≡ length block) × (length block % (4 * step) ≡ 0)

-- the value k steps behind the start of a line, 0 past the end of the block
abbrev pub member : List ℤ → ℕ → ℕ → ℕ → ℤ
member block start step k = slice_index_or block (start + step * k) (pos 0)

-- what a map of lines makes of the line that begins at start
abbrev pub mapped_line : (ℤ → ℤ → ℤ → ℤ → List ℤ) → ℕ → ℕ → List ℤ → List ℤ
mapped_line f start step block =
    f (member block start step 0) (member block start step 1) (member block start step 2)
    (member block start step 3)

-- the line that begins at start has been mapped, and all other values stay
pub record MapsLine (f : ℤ → ℤ → ℤ → ℤ → List ℤ) (start step : ℕ) (old new : List ℤ) : Type 0 where
  pub size : length new ≡ length old
  pub line : (k : ℕ) → k < 4 → member new start step k
      ≡ slice_index_or (mapped_line f start step old) k (pos 0)
  pub others : (p : ℕ) → ((k : ℕ) → k < 4 → p ≢ start + step * k) → slice_index_or new p (pos 0)
      ≡ slice_index_or old p (pos 0)
