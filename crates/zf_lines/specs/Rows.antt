-- Blocks side by side, as a list of blocks.
use Rattle.std.specs.Prelude.{◌≡◌, ◌<◌, ℕ, zero, suc, List, [], ◌∷◌, ◌++◌, length, take, drop, get_or, slice_set}
use Rattle.std.specs.List.{refill}

module _ {X : Type 0} where
  -- the first l blocks of n values of a list
  abbrev pub rows : ℕ → ℕ → List X → List (List X)
  rows zero n xs = []
  rows (suc l) n xs = take n xs ∷ rows l n (drop n xs)

  -- block i
  abbrev pub line_at : List (List X) → ℕ → List X
  line_at ls i = get_or ls i []

  -- l blocks of n values each
  abbrev pub HasSize : List (List X) → ℕ → ℕ → Type 0
  HasSize ls l n = (length ls ≡ l) × ((i : ℕ) → i < l → length (line_at ls i) ≡ n)

  -- the n values from the place a on
  abbrev pub part : List X → ℕ → ℕ → List X
  part xs a n = take n (drop a xs)

  -- ws, cut or filled up to the length of xs
  abbrev pub over : List X → List X → List X
  over xs ws = refill (length xs) xs ws

  -- xs with ws in the place of the n values from the place a on
  abbrev pub over_part : List X → ℕ → ℕ → List X → List X
  over_part xs a n ws = take a xs ++ (over (part xs a n) ws ++ drop n (drop a xs))

  -- the blocks with ws in the place of block i
  abbrev pub with_line : List (List X) → ℕ → List X → List (List X)
  with_line ls i ws = slice_set ls i (over (line_at ls i) ws)

  -- the blocks with ws in the place of the n values of block i from its place a on
  abbrev pub with_part : List (List X) → ℕ → ℕ → ℕ → List X → List (List X)
  with_part ls i a n ws = slice_set ls i (over_part (line_at ls i) a n ws)
