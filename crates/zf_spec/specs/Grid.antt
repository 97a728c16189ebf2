-- An array cut into blocks of four values along each axis (Lindstrom 2014).
--     An array has its sizes as a list, x first, and its dimension d is the length of that list. Positions, extents and
--     the coordinates of a block are lists of that length too. A block is the list of its 4^d values by place, x fastest.
use Rattle.std.specs.List.{AllByRecursion}
use Rattle.std.specs.Prelude.{◌≡◌, ◌⊎◌, ℕ, suc, zero, ◌+◌, ◌-◌, ◌*◌, ◌/◌, ◌%◌, ◌^◌, ◌≤◌, min, ℤ, pos, Bool, true, false, ◌&&◌, nat_lt, List, [], ◌∷◌, map, length, slice_index_or, if◌then◌else◌}

-- the numbers from k on, n of them
abbrev pub count_from : ℕ → ℕ → List ℕ
count_from k zero = []
count_from k (suc n) = k ∷ count_from (suc k) n

-- the numbers below n
abbrev pub upto : ℕ → List ℕ
upto n = count_from 0 n

abbrev pub product : List ℕ → ℕ
product [] = 1
product (n ∷ ns) = n * product ns

-- a number of dimensions
abbrev pub IsDimension : ℕ → Type 0
IsDimension d = (1 ≤ d) × (d ≤ 4)

-- a number of places of a block, 4^d for a number of dimensions
abbrev pub IsBlockSize : ℕ → Type 0
IsBlockSize size = (size ≡ 4) ⊎ (size ≡ 16) ⊎ (size ≡ 64) ⊎ (size ≡ 256)

-- the most values of an array, 1 GiB of int64
abbrev pub max_values : ℕ
max_values = 2 ^ 27

-- the sizes of an array: of one to four dimensions, each at least 1 and at most what its field of the header
-- holds (2^48, 2^24, 2^16 or 2^12), and not too many values in all
pub record IsShape (ns : List ℕ) : Type 0 where
  pub some_dimension : 1 ≤ length ns
  pub four_at_most : length ns ≤ 4
  pub not_zero : AllByRecursion (λ n. 1 ≤ n) ns
  pub fields : AllByRecursion (λ n. n ≤ 2 ^ (48 / length ns)) ns
  pub not_too_large : product ns ≤ max_values

-- how many blocks there are along each axis, and in all
abbrev pub grid : List ℕ → List ℕ
grid ns = map (λ n. (n + 3) / 4) ns

abbrev pub blocks : List ℕ → ℕ
blocks ns = product (grid ns)

-- the position with raster number k in a box of these sizes, x fastest
abbrev pub coordinates : List ℕ → ℕ → List ℕ
coordinates [] k = []
coordinates (n ∷ ns) k = k % n ∷ coordinates ns (k / n)

-- the raster number of a position in a box of these sizes
abbrev pub raster : List ℕ → List ℕ → ℕ
raster [] ps = 0
raster (n ∷ ns) [] = 0
raster (n ∷ ns) (p ∷ ps) = p + n * raster ns ps

-- each coordinate is below its size
abbrev pub is_inside : List ℕ → List ℕ → Bool
is_inside [] ps = true
is_inside (n ∷ ns) [] = false
is_inside (n ∷ ns) (p ∷ ps) = nat_lt p n && is_inside ns ps

-- how many values of the block with these coordinates exist along each axis, 1 to 4
abbrev pub extents : List ℕ → List ℕ → List ℕ
extents [] cs = []
extents (n ∷ ns) [] = []
extents (n ∷ ns) (c ∷ cs) = min 4 (n - 4 * c) ∷ extents ns cs

-- the extent of block b of an array
abbrev pub extent_of : List ℕ → ℕ → List ℕ
extent_of ns b = extents ns (coordinates (grid ns) b)

-- a block of d dimensions is a box of fours
abbrev pub fours : ℕ → List ℕ
fours zero = []
fours (suc d) = 4 ∷ fours d

-- its places, in order
abbrev pub places : ℕ → List ℕ
places d = upto (4 ^ d)

-- the indices of a place along each axis: its digits in base 4
abbrev pub indices : ℕ → ℕ → List ℕ
indices d p = coordinates (fours d) p

-- the position in the array of the index i in the block with coordinates c, along each axis
abbrev pub position_in : List ℕ → List ℕ → List ℕ
position_in [] is = []
position_in (c ∷ cs) [] = []
position_in (c ∷ cs) (i ∷ is) = (4 * c + i) ∷ position_in cs is

-- the value at a place of the block with coordinates cs, of the array's values in raster order; 0 at a place
-- that does not exist
abbrev pub value_at : List ℕ → List ℤ → List ℕ → ℕ → ℤ
value_at ns values cs p =
    let at = indices (length ns) p in
    if is_inside (extents ns cs) at then slice_index_or values (raster ns (position_in cs at)) (pos 0) else
    pos 0

-- block b of an array
abbrev pub block_of : List ℕ → List ℤ → ℕ → List ℤ
block_of ns values b = map (value_at ns values (coordinates (grid ns) b)) (places (length ns))

-- the blocks of an array, in order
abbrev pub blocks_of : List ℕ → List ℤ → List (List ℤ)
blocks_of ns values = map (block_of ns values) (upto (blocks ns))
