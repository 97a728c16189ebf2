-- Where a stream ends too early.
use Rattle.std.specs.Prelude.{ℕ, suc, ◌≡◌, ◌+◌, ◌<◌, ℤ, Bool, List, [], ◌∷◌, ◌++◌, length, Some}
use Rattle.std.specs.List.{flat_map}
use Rattle.zf_spec.specs.Grid.{blocks, extent_of}
use Rattle.zf_spec.specs.Stream.{fill_len}
use Rattle.zf_base.specs.Widths.{width_of}
use Rattle.zf_header.specs.declared.header.Header.{Header}
use Rattle.zf_header.specs.HeaderBits.{header_bits}
use Rattle.zf_parse.specs.Parsing.{read_code}

-- a whole code of block b: whatever follows these bits, they are read, and no bit more
abbrev pub IsCode : Header → ℕ → List Bool → Type 0
IsCode h b code = (block : List ℤ) × ((more : List Bool)
    → read_code (width_of h.ty) h.mode (extent_of h.shape b) (code ++ more) ≡ Some (block, length code))

-- whole codes of the blocks from block b on
abbrev pub AreCodes : Header → ℕ → List (List Bool) → Type 0
AreCodes h b [] = Unit {0}
AreCodes h b (code ∷ codes) = IsCode h b code × AreCodes h (suc b) codes

-- these bits begin with whole codes of the first n blocks
pub record BeginsWithCodes (h : Header) (n : ℕ) (s : List Bool) : Type 0 where
  pub codes : List (List Bool)
  pub count : length codes ≡ n
  pub whole : AreCodes h 0 codes
  pub left : List Bool
  pub bits : s ≡ flat_map (λ c. c) codes ++ left

-- block b is the first whose code is short: all blocks before it have whole codes in these bits; what is left
-- begins a code of block b, and however it goes on, that code has a bit past its end
pub record IsFirstShort (h : Header) (b : ℕ) (s : List Bool) : Type 0 where
  pub before : BeginsWithCodes h b s
  pub begun : (more : List Bool) × IsCode h b (before.left ++ more)
  pub short : (code more rest : List Bool) → IsCode h b code → before.left ++ more ≡ code ++ rest
      → length before.left < length code

-- all blocks have whole codes in these bits, and behind them the fill is short
pub record IsFillShort (h : Header) (s : List Bool) : Type 0 where
  pub before : BeginsWithCodes h (blocks h.shape) s
  pub short : length before.left < fill_len (length (header_bits h) + length (flat_map (λ c. c) before.codes))
