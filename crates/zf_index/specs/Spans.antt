-- Codes that stand one after another: where each begins, and how long it is. Places and lengths are counted
-- in bits.
use Rattle.std.specs.Prelude.{ℕ, zero, suc, ◌≡◌, ◌+◌, ◌*◌, ◌<◌, ◌≤◌, ◌^◌, Bool, List, map, length, take, drop}
use Rattle.std.specs.Prelude.{replicate, slice_index_or}
use Rattle.zf_spec.specs.Grid.{upto}
use Rattle.zf_index.specs.declared.span.Span.{Span}
use Rattle.zf_index.specs.declared.index.Kept.{Kept}
use Rattle.zf_index.specs.declared.index.Kept.TheVariants.{Even, Listed}

-- where the first code begins, and how long each is
pub record Index : Type 0 where
  pub start : ℕ
  pub lens : List ℕ

-- how long code b is
abbrev pub len_at : Index → ℕ → ℕ
len_at i b = slice_index_or i.lens b 0

-- where code b begins: the first at the start, each next behind the one before
abbrev pub place : Index → ℕ → ℕ
place i zero = i.start
place i (suc b) = place i b + len_at i b

-- the span of code b
abbrev pub span_at : Index → ℕ → Span
span_at i b = record { at = place i b; len = len_at i b }

-- the codes themselves, among these bits
abbrev pub code_in : Index → List Bool → ℕ → List Bool
code_in i s b = take (len_at i b) (drop (place i b) s)

abbrev pub codes_in : Index → List Bool → List (List Bool)
codes_in i s = map (code_in i s) (upto (length i.lens))

-- codes of as many bits each
abbrev pub even_index : ℕ → ℕ → ℕ → Index
even_index start len count = record { start = start; lens = replicate count len }

-- ---- what is kept of them

-- the first of these places and these lengths, as an index
abbrev pub index_of : List ℕ → List ℕ → Index
index_of places lens = record { start = slice_index_or places 0 0; lens = lens }

-- these are the places of the first code of each so many; they reach to the last code, and all codes end
-- within a word's numbers
pub record ArePlaces (step : ℕ) (i : Index) (places : List ℕ) : Type 0 where
  pub each : (c : ℕ) → c < length places → slice_index_or places c 0 ≡ place i (step * c)
  pub enough : length i.lens ≤ step * length places

pub record IsKept (step : ℕ) (places lens : List ℕ) : Type 0 where
  pub some : 0 < step
  pub kept : ArePlaces step (index_of places lens) places
  pub within : place (index_of places lens) (length lens) < 2 ^ 64

-- either form as an index
abbrev pub index_in : Kept → Index
index_in (Even start len count) = even_index start len count
index_in (Listed places lens) = index_of places.items lens.items

abbrev pub IsKeptIn : ℕ → Kept → Type 0
IsKeptIn step (Even start len count) = start + count * len < 2 ^ 64
IsKeptIn step (Listed places lens) = IsKept step places.items lens.items
