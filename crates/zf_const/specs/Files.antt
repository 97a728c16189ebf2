-- The array of a stream.
use Rattle.std.specs.Prelude.{ℕ, ◌≡◌, ℤ, List, map, length, Ok}
use Rattle.zf_spec.specs.Grid.{blocks, upto}
use Rattle.zf_header.specs.declared.header.Header.{Header}
use Rattle.zf_parse.specs.Parsing.{Said, values_of_blocks, parse}
use Rattle.zf_const.specs.Standing.{Held, values_at, shape}

-- the values of the array, in raster order
abbrev pub values_of : Held → List ℤ
values_of a = values_of_blocks (shape a) (map (values_at a) (upto (blocks (shape a))))

-- what its stream says
abbrev pub said : Held → Said
said a = record { header = a.header; codes = a.codes; values = values_of a }

-- the array of these bytes: they have this header, and say the array's codes and its values
pub record IsOpened (bytes : List ℕ) (h : Header) (a : Held) : Type 0 where
  pub header : a.header ≡ h
  pub count : length a.codes ≡ blocks h.shape
  pub said_is : parse bytes ≡ Ok (said a)
