-- A partial block is padded to a whole one (zfp 1.0 documentation, chapter Algorithm).
use Rattle.std.specs.Prelude.{ℕ, ◌+◌, ◌-◌, ◌*◌, ◌/◌, ◌%◌, ◌≤◌, All, ℤ, pos, List, [], ◌∷◌, map, length, slice_index_or}
use Rattle.zf_spec.specs.Grid.{places}

-- extents of a block: 1 to 4 along each axis
abbrev pub AreExtents : List ℕ → Type 0
AreExtents es = All (λ e. (1 ≤ e) × (e ≤ 4)) es

-- a line of one to four values a, b, c, d becomes a a a a, or a b b a, or a b c a, or a b c d:
-- which of the n values each of the four is
abbrev pub sources : ℕ → List ℕ
sources n = slice_index_or ((0 ∷ 0 ∷ 0 ∷ 0 ∷ []) ∷ (0 ∷ 1 ∷ 1 ∷ 0 ∷ []) ∷ (0 ∷ 1 ∷ 2 ∷ 0 ∷ [])
    ∷ (0 ∷ 1 ∷ 2 ∷ 3 ∷ []) ∷ []) (n - 1) []

-- which place a padded place is taken from, with these extents: along each axis by the line's rule
abbrev pub source_place : List ℕ → ℕ → ℕ
source_place [] p = 0
source_place (e ∷ es) p = slice_index_or (sources e) (p % 4) 0 + 4 * source_place es (p / 4)

-- the padded block; it looks at no place that does not exist
unfoldable pub pad : List ℕ → List ℤ → List ℤ
pad es block = map (λ p. slice_index_or block (source_place es p) (pos 0)) (places (length es))
