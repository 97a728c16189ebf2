-- Bytes as words of 64, the least significant byte first.
use Rattle.std.specs.Prelude.{ℕ, zero, suc, List, [], ◌∷◌, length, drop}
use Rattle.std.specs.Int.{w64, div_ceil, from_le_bytes}
use Rattle.zf_spec.specs.Stream.{first_bytes}

-- the word of the first 8 bytes, zeros where there are fewer
unfoldable pub word_of : List ℕ → ℕ
word_of bytes = from_le_bytes w64 (first_bytes 8 bytes)

-- n words, of 8 bytes each
abbrev pub words_from : ℕ → List ℕ → List ℕ
words_from zero bytes = []
words_from (suc n) bytes = word_of bytes ∷ words_from n (drop 8 bytes)

-- as many words as hold the bytes
abbrev pub words_of : List ℕ → List ℕ
words_of bytes = words_from (div_ceil (length bytes) 8) bytes
