-- What a file says.
use Rattle.std.specs.Prelude.{ℕ, ◌≡◌, ℤ, List, map, length, None, Ok}
use Rattle.zf_spec.specs.Grid.{blocks, upto}
use Rattle.zf_base.specs.Formats.{meant}
use Rattle.zf_header.specs.declared.header.Header.{Header}
use Rattle.zf_header.specs.HeaderBits.{IsRate, rate_bytes_of}
use Rattle.zf_header.specs.HeaderFaults.{header_fault}
use Rattle.zf_parse.specs.Parsing.{Said, header_of, values_of_blocks, parse}
use Rattle.zf_store.specs.Stored.{Stored, code_at, format_of, file_of}

-- the bytes begin with this header, which has a rate
pub record HasHeader (bytes : List ℕ) (h : Header) : Type 0 where
  pub good : header_fault bytes ≡ None
  pub header : h ≡ header_of bytes
  pub rate : IsRate h.mode

-- the values of the array, as its codes mean them
abbrev pub values_of : Stored → List ℤ
values_of s = values_of_blocks s.header.shape (map (λ b. meant (format_of s) b (code_at s b))
    (upto (blocks s.header.shape)))

-- what the stream of a store says
abbrev pub said : Stored → Said
said s = record { header = s.header; codes = s.codes; values = values_of s }

-- a store was read from these bytes: they have this header, they say the store's codes, and they are the
-- store's file, bit for bit
pub record IsOpened (bytes : List ℕ) (h : Header) (s : Stored) : Type 0 where
  pub header : s.header ≡ h
  pub count : length s.codes ≡ blocks h.shape
  pub size : length bytes ≡ rate_bytes_of h
  pub said_is : parse bytes ≡ Ok (said s)
  pub file : file_of s ≡ bytes
