-- Arrays of whole numbers: how the values of a block are coded, and the format of the codes of an array.
--     An array has its sizes as a list, x first. A block has its extents, the number of values that exist along each axis.
use Rattle.std.specs.Prelude.{ℕ, ◌+◌, ◌*◌, ◌^◌, ℤ, Bool, false, List, [], map, length, replicate, slice_index_or, Option, Some, None}
use Rattle.std.specs.Int.{Width, div_ceil}
use Rattle.zf_spec.specs.Grid.{upto, blocks, indices, is_inside, extent_of}
use Rattle.zf_spec.specs.Codes.{rev, rate, prec, read_rev, read_rate, read_prec}
use Rattle.zf_spec.specs.Stream.{Mode, header, file}
use Rattle.zf_base.specs.Formats.{Format}
use Rattle.zf_cached.specs.State.{State}
use Rattle.zf_cached.specs.Changes.{opened, raised}

-- the values that a code means in a block with these extents; the code of a block's values; the code of zeros
pub record Coding (Code : Type 0) : Type 0 where
  pub meaning : List ℕ → Code → List ℤ
  pub encoding : List ℕ → List ℤ → Code
  pub zero : Code

-- so many bits a block
unfoldable pub rate_coding : Width → ℕ → Coding (List Bool)
rate_coding w budget = record {
  meaning = read_rate w;
  encoding = rate w budget;
  zero = replicate budget false;
}

-- each block is its own code: nothing is lost
unfoldable pub plain_coding : Coding (List ℤ)
plain_coding = record {
  meaning = λ es code. code;
  encoding = λ es values. values;
  zero = [];
}

-- the values that were read, or none
abbrev pub read_values : Option (List ℤ × ℕ) → List ℤ
read_values None = []
read_values (Some code) = code.0

-- the codes of a stream in any mode
unfoldable pub mode_coding : Width → Mode → Coding (List Bool)
mode_coding w Mode.reversible = record {
  meaning = λ es s. read_values (read_rev w es s);
  encoding = rev w;
  zero = [];
}
mode_coding w (Mode.fixed_rate budget) = rate_coding w budget
mode_coding w (Mode.fixed_precision p) = record {
  meaning = λ es s. read_values (read_prec w p es s);
  encoding = prec w p;
  zero = [];
}

-- the codes of an array of these sizes
unfoldable pub array_format : {Code : Type 0} → Coding Code → List ℕ → Format Code
array_format coding ns = record {
  blocks = blocks ns;
  block_len = 4 ^ length ns;
  exists = λ b p. is_inside (extent_of ns b) (indices (length ns) p);
  meaning = λ b code. coding.meaning (extent_of ns b) code;
  encoding = λ b values. coding.encoding (extent_of ns b) values;
}

-- the codes of a file, in the order of blocks, are those of the array that is opened (the code of a number
-- that is no block's is that of zeros); the number of lines is raised
unfoldable pub open_array : Width → ℕ → List ℕ → List (List Bool) → ℕ → State (List Bool)
open_array w budget ns codes lines = opened (array_format (rate_coding w budget) ns)
    (λ b. slice_index_or codes b (replicate budget false)) (raised lines)

-- the codes of an array of zeros
abbrev pub zero_codes : ℕ → List ℕ → List (List Bool)
zero_codes budget ns = replicate (blocks ns) (replicate budget false)

-- an array of zeros
unfoldable pub new_array : Width → ℕ → List ℕ → ℕ → State (List Bool)
new_array w budget ns lines = open_array w budget ns (zero_codes budget ns) lines

-- the codes of the blocks of an array, in order
unfoldable pub codes_of : {Code : Type 0} → List ℕ → State Code → List Code
codes_of ns s = map s.codes (upto (blocks ns))

-- what is saved: the stream of these codes, those of the last write-backs and, where a block never was
-- written back, the file's own
unfoldable pub saved_file : Width → ℕ → List ℕ → State (List Bool) → List ℕ
saved_file w budget ns s = file w ns (Mode.fixed_rate budget) (codes_of ns s)

-- the most bytes of a file
abbrev pub max_file : ℕ
max_file = 1200000000

-- how long the stream of an array is: header and codes, filled to a whole word
unfoldable pub file_bytes : Width → ℕ → List ℕ → ℕ
file_bytes w budget ns = 8 * div_ceil (length (header w ns (Mode.fixed_rate budget)) + blocks ns * budget) 64
