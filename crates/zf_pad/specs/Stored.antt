-- Values in the order of blocks: of each block those that exist, x fastest, and the blocks in order. As many
-- are there as the blocks so far have.
use Rattle.std.specs.Prelude.{ℕ, ◌≡◌, ◌+◌, ◌*◌, ◌/◌, ◌%◌, ◌^◌, ◌<◌, ◌≤◌, ◌⊎◌, true, ℤ, pos, List, [], ◌∷◌}
use Rattle.std.specs.Prelude.{◌++◌, map, length, slice_index_or}
use Rattle.std.specs.List.{AllByRecursion}
use Rattle.std.specs.Int.{Width, byte_len}
use Rattle.zf_pad.specs.declared.storing.Known.{Known}
use Rattle.zf_spec.specs.Grid.{IsShape, product, coordinates, raster, is_inside, indices, extents, upto}
use Rattle.zf_spec.specs.Stream.{values_from}

-- how many values the blocks before the one with these coordinates have
abbrev pub start_at : List ℕ → List ℕ → ℕ
start_at [] cs = 0
start_at (n ∷ ns) [] = 0
start_at (n ∷ ns) (c ∷ cs) = 4 * c * product (extents ns cs) + n * start_at ns cs

-- where the value at a position is: behind those of the blocks before, and at its place in what exists of its
-- block
abbrev pub stored_index : List ℕ → List ℕ → ℕ
stored_index ns ps =
    let cs = map (λ p. p / 4) ps in
    start_at ns cs + raster (extents ns cs) (map (λ p. p % 4) ps)

-- the values of an array in raster order
abbrev pub raster_of : List ℕ → List ℤ → List ℤ
raster_of ns stored =
    map (λ k. slice_index_or stored (stored_index ns (coordinates ns k)) (pos 0)) (upto (product ns))

-- the values that raw bytes are, as many as are whole
unfoldable pub values_in : Width → List ℕ → List ℤ
values_in w bytes = values_from w (length bytes / byte_len w) bytes

-- the values of a block that exist were put behind those that were there
pub record AppendsBlock (es : List ℕ) (block old new : List ℤ) : Type 0 where
  pub more : List ℤ
  pub behind : new ≡ old ++ more
  pub long : length more ≡ product es
  pub values : (p : ℕ) → p < 4 ^ length es → is_inside es (indices (length es) p) ≡ true
      → slice_index_or more (raster es (indices (length es) p)) (pos 0) ≡ slice_index_or block p (pos 0)

-- no size cuts a block
abbrev pub HasWholeBlocks : List ℕ → Type 0
HasWholeBlocks ns = AllByRecursion (λ n. n % 4 ≡ 0) ns

-- how many values a line has, those that differ in x alone
abbrev pub line_len : List ℕ → ℕ
line_len ns = slice_index_or ns 0 1

-- the sizes along the other three axes
abbrev pub other_sizes : List ℕ → List ℕ
other_sizes ns = slice_index_or ns 1 1 ∷ slice_index_or ns 2 1 ∷ slice_index_or ns 3 1 ∷ []

-- the value with this raster number is the first of its block along x
abbrev pub IsFirst : List ℕ → ℕ → Type 0
IsFirst ns k = k % line_len ns % 4 ≡ 0

-- of the line with these coordinates along the other axes: how many lines the layers of blocks before its own
-- have, how many its own has, and which of them it is
pub record IsLine (ns ps : List ℕ) (first lines line : ℕ) : Type 0 where
  pub first_is : first ≡ start_at ns (map (λ p. p / 4) ps)
  pub lines_are : lines ≡ product (extents ns (map (λ p. p / 4) ps))
  pub line_is : line ≡ raster (extents ns (map (λ p. p / 4) ps)) (map (λ p. p % 4) ps)

-- a line with its number, and those behind it in the same layer of blocks: each is the next one there
pub record IsKnown (ns : List ℕ) (k : Known) : Type 0 where
  pub each : (j : ℕ) → j ≤ k.left → IsLine ns (coordinates ns (k.number + j)) k.line.first k.line.lines (k.line.line + j)
  pub below : k.line.line + k.left < k.line.lines
  pub fits : k.line.first + k.line.lines ≤ product ns
  pub within : k.number + k.left < product ns

-- so many values of one line, of n values, from one place on: the first of a block, and whole blocks or all
-- that is left
pub record LinePart (ns : List ℕ) (from count n first lines line : ℕ) : Type 0 where
  pub shape : IsShape ns
  pub n_is : n ≡ line_len ns
  pub before : from < product ns
  pub is : IsLine (other_sizes ns) (coordinates (other_sizes ns) (from / n)) first lines line
  pub below : line < lines
  pub fits : first + lines ≤ product (other_sizes ns)
  pub within : from % line_len ns + count ≤ line_len ns
  pub begins : IsFirst ns from
  pub whole : (count % 4 ≡ 0) ⊎ (from % line_len ns + count ≡ line_len ns)

-- four lines of n values of one layer of blocks, of which no block is cut: the first begins with this value
pub record AreFourLines (ns : List ℕ) (from n first lines line : ℕ) : Type 0 where
  pub each : (j : ℕ) → j < 4 → LinePart ns (from + j * n) n n first lines (line + j)
  pub begins : from % n ≡ 0
  pub whole : n % 4 ≡ 0

-- values before this place stay
abbrev pub StayBefore : ℕ → List ℤ → List ℤ → Type 0
StayBefore to old new = (i : ℕ) → i < to → slice_index_or new i (pos 0) ≡ slice_index_or old i (pos 0)

-- where the values of such a part lie, which has x values of the line before it, among so many
pub record PartFits (x count n first lines line all : ℕ) : Type 0 where
  pub small : n * first + x * lines + 4 * line < 2 ^ 40
  pub blocks : n * first + x * lines + 4 * line + count / 4 * (4 * lines) < 2 ^ 41
  pub there : (b : ℕ) → b < count / 4 → n * first + x * lines + 4 * line + b * (4 * lines) + 4 ≤ all
  pub rest : n * first + x * lines + 4 * (count / 4) * lines + count % 4 * line + count % 4 ≤ all
  pub few : all < 2 ^ 41

-- where the values of such lines lie, and what comes behind them
pub record FourFit (ns : List ℕ) (from n first lines line : ℕ) : Type 0 where
  pub there : (b : ℕ) → b < n / 4 → n * first + 4 * line + b * (4 * lines) + 16 ≤ product ns
  pub small : n * first + 4 * line + n / 4 * (4 * lines) < 2 ^ 41
  pub steps : 4 * lines < 2 ^ 41
  pub ends : from + 4 * n ≤ product ns
  pub next : IsFirst ns (from + 4 * n)
