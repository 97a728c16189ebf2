-- What never changes about the codes of an array's blocks, and what follows from it.
--     A code is of any type: for an array of a fixed rate it is a list of bits. A block is the list of its values by place,
--     and its value is 0 at a place that does not exist.
use Rattle.std.specs.Prelude.{ℕ, ◌==◌, ℤ, pos, Bool, true, false, List, map, slice_index_or, if◌then◌else◌}
use Rattle.zf_spec.specs.Grid.{upto}

-- how many blocks there are, and how many places each has; which places of a block exist; the values that a
-- code means in a block; the code that is made of a block's values
pub record Format (Code : Type 0) : Type 0 where
  pub blocks : ℕ
  pub block_len : ℕ
  pub exists : ℕ → ℕ → Bool
  pub meaning : ℕ → Code → List ℤ
  pub encoding : ℕ → List ℤ → Code

-- the values of a block at the places that exist, 0 at the others
unfoldable pub existing_of : {Code : Type 0} → Format Code → ℕ → List ℤ → List ℤ
existing_of format b values = map (λ p. if format.exists b p then slice_index_or values p (pos 0) else pos 0)
    (upto format.block_len)

-- the values that block b has where this is its code
unfoldable pub meant : {Code : Type 0} → Format Code → ℕ → Code → List ℤ
meant format b code = existing_of format b (format.meaning b code)

-- the code that is made of the values of block b; a place that does not exist is not looked at
unfoldable pub encoded : {Code : Type 0} → Format Code → ℕ → List ℤ → Code
encoded format b values = format.encoding b (existing_of format b values)

-- what the values of block b are rounded to: the values that the code made of them means
unfoldable pub rounded : {Code : Type 0} → Format Code → ℕ → List ℤ → List ℤ
rounded format b values = meant format b (encoded format b values)

-- a function changed at one number
unfoldable pub with_at : {A : Type 0} → (ℕ → A) → ℕ → A → ℕ → A
with_at f k a n = elim (n == k) [ true ↦ a | false ↦ f n ]
