-- What blocks of a stream are read by.
use Rattle.std.specs.Prelude.{ℕ, ◌≡◌, ◌+◌, ◌*◌, ◌≤◌, List, Option, OnSome, IfNone, length, slice_index_or}
use Rattle.std.specs.Int.{Width}
use Rattle.zf_spec.specs.Grid.{blocks}
use Rattle.zf_base.specs.Widths.{width_of}
use Rattle.zf_header.{specs.declared.header.Header.{Header}, specs.HeaderBits.{IsMode}}
use Rattle.zf_parse.specs.Parsing.{longest_code}
use Rattle.zf_index.specs.Spans.{place}
use Rattle.zf_index.specs.Files.{IsIndexOf}
use Rattle.zf_part.specs.declared.places.Places.{Places}
use Rattle.zf_part.specs.declared.places.Places.TheVariants.{Own, Lent}
use Rattle.zf_part.specs.Places.{ArePlacesOf}

-- of how many blocks it is said where the code begins, and where that is
abbrev pub place_count : Places → ℕ
place_count (Own index) = length index.lens
place_count (Lent places) = length places.now

abbrev pub place_in : Places → ℕ → ℕ
place_in (Own index) b = place index b
place_in (Lent places) b = slice_index_or places.now b 0

-- that is where the codes of the stream begin
abbrev pub AreRight : List ℕ → Header → Places → Type 0
AreRight bytes h (Own index) = IsIndexOf bytes h index
AreRight bytes h (Lent places) = ArePlacesOf bytes h places.now

-- a stream with its header, and where its codes are to begin
pub record Reading : Type 0 where
  pub header : Header
  pub bytes : List ℕ
  pub places : Places

-- there is a place for each block, right or not, and the values are of this type
pub record IsReading (w : Width) (h : Header) (places : Places) : Type 0 where
  pub count : blocks h.shape ≤ place_count places
  pub same_type : w ≡ width_of h.ty
  pub mode : IsMode h.mode

-- the codes begin at these places
abbrev pub IsRight : Reading → Type 0
IsRight r = AreRight r.bytes r.header r.places

-- this stream is read, and the codes begin at the places where this holds
pub record IsOver (stream : List ℕ) (h : Header) (Given : Type 0) (r : Reading) : Type 0 where
  pub header : r.header ≡ h
  pub bytes : r.bytes ≡ stream
  pub right : Given → IsRight r

-- what was asked for is there, or nothing is where the codes are not at the places
pub record IsFound (r : Reading) (found : Option (Unit {0})) (There : Type 0) : Type 0 where
  pub some : OnSome found (IsRight r → There)
  pub none : IfNone found (IsRight r → ⊥)

-- words have room for the longest code behind any place
pub record HasRoom (h : Header) (words : List ℕ) : Type 0 where
  pub enough : longest_code h + 128 ≤ 64 * length words
  pub few : length words ≤ 1024
