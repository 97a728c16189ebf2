-- Where the codes of a stream begin.
use Rattle.std.specs.Prelude.{ℕ, ◌≡◌, ◌<◌, ◌≤◌, List, length, slice_index_or}
use Rattle.zf_spec.specs.Grid.{blocks}
use Rattle.zf_header.specs.declared.header.Header.{Header}
use Rattle.zf_index.specs.Spans.{Index, place}
use Rattle.zf_index.specs.Files.{IsIndexOf}
use Rattle.zf_part.specs.declared.places.PlaceFault.{PlaceFault}
use Rattle.zf_part.specs.declared.places.PlaceFault.TheVariants.{Foreign, Memory}

-- at the first of these bits the codes of a stream begin, one of each block
pub record ArePlacesOf (bytes : List ℕ) (h : Header) (places : List ℕ) : Type 0 where
  pub index : Index
  pub is : IsIndexOf bytes h index
  pub count : blocks h.shape ≤ length places
  pub each : (b : ℕ) → b < blocks h.shape → slice_index_or places b 0 ≡ place index b

-- why nothing is read over places: they are not those of the stream, or there was no memory
abbrev pub IsPlaceFault : List ℕ → Header → List ℕ → PlaceFault → Type 0
IsPlaceFault bytes h places Foreign = ArePlacesOf bytes h places → ⊥
IsPlaceFault bytes h places Memory = Unit {0}
