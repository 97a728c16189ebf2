-- What the values of a window of a stream are.
use Rattle.std.specs.Prelude.{ℕ, ◌≡◌, ◌*◌, ◌<◌, ◌^◌, ℤ, pos, List, map, length, take, drop, slice_index_or, Ok}
use Rattle.zf_spec.specs.Grid.{product, blocks, coordinates}
use Rattle.zf_cached.specs.Windows.{Window, mapped}
use Rattle.zf_header.specs.declared.header.Header.{Header}
use Rattle.zf_parse.specs.Parsing.{Said, parse}
use Rattle.zf_part.specs.Blocks.{IsBlockOf, value_in}
use Rattle.zf_part.specs.Readings.{Reading, IsRight, HasRoom}

-- the first n values of a window, in raster order, are those that a stream says there
abbrev pub AreThere : Header → Window → Said → List ℤ → ℕ → Type 0
AreThere h w said values n = (k : ℕ) → k < n
    → slice_index_or values k (pos 0) ≡ value_in h.shape said.values (mapped w (coordinates w.size k))

-- these values are there, where the stream is good
abbrev pub AreAllThere : List ℕ → Header → Window → List ℤ → Type 0
AreAllThere bytes h w found = (said : Said) → parse bytes ≡ Ok said → AreThere h w said found (product w.size)

-- these are the values of a window of a stream
pub record IsWindowOf (bytes : List ℕ) (h : Header) (w : Window) (found : List ℤ) : Type 0 where
  pub said : Said
  pub parsed : parse bytes ≡ Ok said
  pub count : length found ≡ product w.size
  pub there : AreThere h w said found (product w.size)

-- line l of as many values as a block has
abbrev pub line_of : {X : Type 0} → Header → ℕ → List X → List X
line_of h l lines = take (4 ^ length h.shape) (drop (l * 4 ^ length h.shape) lines)

-- each line that says so holds a block of the stream
abbrev pub AreHeld : {X : Type 0} → (X → ℤ) → List ℕ → Header → List ℕ → List X → Type 0
AreHeld value bytes h held lines = (l : ℕ) → l < length held → slice_index_or held l 0 < blocks h.shape
    → IsBlockOf bytes h (slice_index_or held l 0) (map value (line_of h l lines))

-- a line at least, room in each for a block, words for the longest code, and what is held is the stream's
pub record HasLines {X : Type 0} (value : X → ℤ) (r : Reading) (held : List ℕ) (lines : List X)
    (words : List ℕ) : Type 0 where
  pub some : 0 < length held
  pub values : length lines ≡ length held * 4 ^ length r.header.shape
  pub room : HasRoom r.header words
  pub known : IsRight r → AreHeld value r.bytes r.header held lines
