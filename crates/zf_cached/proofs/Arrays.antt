-- The codes of arrays: what they mean, how values are rounded, and the code of zeros.
use Rattle.std.proofs.Common.{◌≡◌, sym, ap, ◌∙◌, ℕ, ◌^◌, ◌<◌, ℤ, pos, cond, Bool, false, List, map, length, get_or, replicate, All, ◌+◌, ◌*◌, rules}
use Rattle.std.{proofs.lemmas.List.Elements.{All-from_recursion}, specs.Int.{Width, div_ceil}}
use Rattle.zf_spec.{specs.Grid.{upto, blocks, indices, is_inside, extent_of}, specs.Lift.{lift}}
use Rattle.zf_spec.{specs.Planes.{code}, specs.ReadPlanes.{first_bits}, proofs.Files.{length-file}}
use Rattle.zf_spec.specs.Codes.{planes, existing_values, rate, round, read_rate}
use Rattle.zf_spec.{specs.Stream.{header, file, fixed_rate}, proofs.Counting.{length-upto, map-get_or-upto}}
use Rattle.zf_spec.proofs.Padding.{IsExtent, pad-existing_values, existing_values-existing_values}
use Rattle.zf_spec.proofs.BlockReading.{read_rate-rate}
use Rattle.zf_base.specs.Formats.{existing_of, meant, encoded, rounded}
use Rattle.zf_base.proofs.Formats.{existing_of-existing_of}
use Rattle.zf_base.proofs.Extents.{length-extent_of, extent_of_bounds}
use Rattle.zf_cached.{specs.State.{State}, specs.Changes.{opened, zeros}}
use Rattle.zf_cached.specs.Arrays.{Coding, plain_coding, rate_coding, array_format, open_array, codes_of, saved_file, file_bytes}
use Rattle.zf_cached.proofs.CodeOfZeros.{read_rate-zeros}

-- the places that exist are those of the block's extents
pub existing_of-array : {Code : Type 0} (coding : Coding Code) (ns : List ℕ) (b : ℕ) (values : List ℤ) → existing_of (array_format coding ns) b values ≡ existing_values (extent_of ns b) values
unfolding existing_of array_format existing_values
existing_of-array coding ns b values =
    ap (λ d. map (λ p. cond (is_inside (extent_of ns b) (indices d p)) (get_or values p (pos 0)) (pos 0)) (upto (4 ^ d))) (sym (length-extent_of ns b))

pub existing_values-read_rate : (w : Width) (es : List ℕ) (code : List Bool) → existing_values es (read_rate w es code) ≡ read_rate w es code
unfolding read_rate
existing_values-read_rate w es code = existing_values-existing_values es _

-- a code means what reading it gives
pub meant-rate : (w : Width) (budget : ℕ) (ns : List ℕ) (b : ℕ) (code : List Bool) → meant (array_format (rate_coding w budget) ns) b code ≡ read_rate w (extent_of ns b) code
unfolding meant rate_coding array_format
meant-rate w budget ns b code = existing_of-array (rate_coding w budget) ns b (read_rate w (extent_of ns b) code) ∙ existing_values-read_rate w (extent_of ns b) code

-- the code of a block's values
pub encoded-rate : (w : Width) (budget : ℕ) (ns : List ℕ) (b : ℕ) (values : List ℤ) → b < blocks ns → encoded (array_format (rate_coding w budget) ns) b values ≡ rate w budget (extent_of ns b) values
unfolding encoded rate_coding array_format rate
encoded-rate w budget ns b values below =
    let es = extent_of ns b in
    let all : All IsExtent es = All-from_recursion IsExtent es (extent_of_bounds ns b below) in
    ap (rate w budget es) (existing_of-array (rate_coding w budget) ns b values) ∙ ap (λ block. first_bits budget (code (planes w (length es) (lift w (length es) block)))) (pad-existing_values es values all)

-- what a write-back makes of a block's values
pub rounded-rate : (w : Width) (budget : ℕ) (ns : List ℕ) (b : ℕ) (values : List ℤ) → b < blocks ns → rounded (array_format (rate_coding w budget) ns) b values ≡ round w budget (extent_of ns b) values
unfolding rounded
rounded-rate w budget ns b values below = search (rules, meant-rate, encoded-rate, read_rate-rate)

-- the code of zeros means zeros
pub meant-zeros : (w : Width) (budget : ℕ) (ns : List ℕ) (b : ℕ) → meant (array_format (rate_coding w budget) ns) b (rate_coding w budget).zero ≡ zeros (array_format (rate_coding w budget) ns)
unfolding zeros rate_coding array_format
meant-zeros w budget ns b =
    meant-rate w budget ns b (replicate budget false) ∙ read_rate-zeros w (extent_of ns b) budget ∙ ap (λ d. replicate (4 ^ d) (pos 0)) (length-extent_of ns b)

-- blocks that are their own codes lose nothing
pub rounded-plain : (ns : List ℕ) (b : ℕ) (values : List ℤ) → rounded (array_format plain_coding ns) b values ≡ existing_of (array_format plain_coding ns) b values
unfolding rounded meant encoded plain_coding array_format
rounded-plain ns b values = existing_of-existing_of (array_format plain_coding ns) b values

-- ---- files

-- the codes of an array that is opened are those that it was opened with
pub codes_of-open : (w : Width) (budget : ℕ) (ns : List ℕ) (codes : List (List Bool)) (lines : ℕ) → length codes ≡ blocks ns → codes_of ns (open_array w budget ns codes lines) ≡ codes
unfolding codes_of open_array opened
codes_of-open w budget ns codes lines same = map-get_or-upto codes (blocks ns) (replicate budget false) same

-- the file of an array that nothing was written back to
pub saved_file-open : (w : Width) (budget : ℕ) (ns : List ℕ) (codes : List (List Bool)) (lines : ℕ) → length codes ≡ blocks ns
    → saved_file w budget ns (open_array w budget ns codes lines) ≡ file w ns (fixed_rate budget) codes
unfolding saved_file
saved_file-open w budget ns codes lines same = ap (file w ns (fixed_rate budget)) (codes_of-open w budget ns codes lines same)

-- how long a saved file is
pub length-saved_file : (w : Width) (budget : ℕ) (ns : List ℕ) (s : State (List Bool)) → ((b : ℕ) → length (s.codes b) ≡ budget) → length (saved_file w budget ns s) ≡ file_bytes w budget ns
unfolding saved_file codes_of file_bytes
length-saved_file w budget ns s each =
    length-file w ns (fixed_rate budget) s.codes budget (upto (blocks ns)) each
    ∙ ap (λ n. 8 * div_ceil (length (header w ns (fixed_rate budget)) + n * budget) 64) (length-upto (blocks ns))
