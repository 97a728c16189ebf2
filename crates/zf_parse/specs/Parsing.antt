-- What a stream says: its header, the codes of its blocks and its values, or why it says nothing. No decoder
-- is in these definitions but the reading of one code.
use Rattle.std.specs.Prelude.{ℕ, zero, suc, ◌-◌, ◌*◌, nat_lt, ℤ, pos, Bool, false, List, [], ◌∷◌, ◌++◌, map, length, take, drop, replicate, slice_index_or, Option, Some, None, is_none, Result, Ok, Err, if◌then◌else◌}
use Rattle.std.specs.Result.{result_map_both}
use Rattle.std.specs.Int.{Width}
use mir.Val.{bits}
use Rattle.zf_spec.specs.Grid.{product, blocks, coordinates, extent_of, upto}
use Rattle.zf_spec.specs.Planes.{has_one}
use Rattle.zf_spec.specs.Codes.{read_rev, read_rate, read_prec}
use Rattle.zf_spec.specs.Stream as stream
use Rattle.zf_spec.specs.Stream.{fill_len, to_bits}
use Rattle.zf_base.specs.Widths.{width_of}
use Rattle.zf_base.specs.Places.{block_number, place_of}
use Rattle.zf_header.specs.declared.header.Header.{Header}
use Rattle.zf_header.specs.declared.header.Mode.{Mode}
use Rattle.zf_header.specs.declared.header.Mode.TheVariants.{Reversible, Rate, Precision}
use Rattle.zf_header.specs.HeaderBits.{coding, header_bits}
use Rattle.zf_header.specs.HeaderFields.{header_in}
use Rattle.zf_header.specs.HeaderFaults.{header_fault}
use Rattle.zf_block.specs.Room.{longest_rev, longest_prec}
use Rattle.zf_parse.specs.declared.fault.StreamFault.{StreamFault}
use Rattle.zf_parse.specs.declared.fault.StreamFault.TheVariants as faults
use Rattle.zf_parse.specs.Raw.{raw_bytes}

-- the block that a code at the front of these bits stands for and how many bits the code has, or nothing
-- where a bit past the end is needed
abbrev pub read_code : Width → Mode → List ℕ → List Bool → Option (List ℤ × ℕ)
read_code w Reversible es s = read_rev w es s
read_code w (Rate b) es s = if nat_lt (length s) b then None else Some (read_rate w es (take b s), b)
read_code w (Precision p) es s = read_prec w p es s

-- the codes of n blocks from block b on, each with the block that it stands for, and the bits behind them; or
-- the number of the first block whose code ends too early
abbrev pub coded_blocks : Header → ℕ → ℕ → List Bool → Result (List (List Bool × List ℤ) × List Bool) ℕ
coded_blocks h b zero s = Ok ([], s)
coded_blocks h b (suc n) s = elim (read_code (width_of h.ty) h.mode (extent_of h.shape b) s) [
  | None ↦ Err b
  | Some code ↦ result_map_both (λ rest. ((take code.1 s, code.0) ∷ rest.0, rest.1)) (λ k. k)
      (coded_blocks h (suc b) n (drop code.1 s))
]

-- the blocks alone
abbrev pub read_codes : Header → ℕ → ℕ → List Bool → Result (List (List ℤ) × List Bool) ℕ
read_codes h b n s = result_map_both (λ found. (map (λ c. c.1) found.0, found.1)) (λ k. k)
    (coded_blocks h b n s)

-- the values of an array, of its blocks: each position has the value at its place in its block
abbrev pub values_of_blocks : List ℕ → List (List ℤ) → List ℤ
values_of_blocks ns bs = map (λ k. slice_index_or (slice_index_or bs (block_number ns (coordinates ns k)) [])
    (place_of (coordinates ns k)) (pos 0)) (upto (product ns))

-- what stands behind the codes: the fill to a whole word of 64, all zero, and nothing more
abbrev pub fill_answer : Header → ℕ → List Bool → Result (Unit {0}) StreamFault
fill_answer h used s =
    let fill = fill_len used in
    if nat_lt (length s) fill then Err (faults.Truncated (blocks h.shape))
    else (if has_one (take fill s) then Err faults.Pad
    else (if nat_lt fill (length s) then Err faults.Trailing else Ok tt))

-- the header that bytes begin with, and the bits behind it
abbrev pub header_of : List ℕ → Header
header_of bytes = header_in (to_bits bytes)

abbrev pub code_bits : List ℕ → List Bool
code_bits bytes = drop (length (header_bits (header_of bytes))) (to_bits bytes)

-- what a good stream says
pub record Said : Type 0 where
  pub header : Header
  pub codes : List (List Bool)
  pub values : List ℤ

-- what the stream of values says, where these values come back
abbrev pub said_of : Header → List ℤ → List ℤ → Said
said_of h values back = record {
  header = h;
  codes =
      stream.codes (width_of h.ty) h.shape (coding h.mode) values;
  values = back;
}

-- what codes with their blocks say, and the bits behind them, of a stream of so many bits that has this
-- header
abbrev pub said_with : Header → ℕ → List (List Bool × List ℤ) × List Bool → Result Said StreamFault
said_with h all found =
    let said : Said = record {
      header = h;
      codes = map (λ c. c.0) found.0;
      values =
          values_of_blocks h.shape (map (λ c. c.1) found.0);
    } in
    result_map_both (λ good. said) (λ e. e) (fill_answer h (all - length found.1) found.1)

-- what the bits behind the header say
abbrev pub said_behind : Header → ℕ → List Bool → Result Said StreamFault
said_behind h all s = elim (coded_blocks h 0 (blocks h.shape) s) [
  | Err b ↦ Err (faults.Truncated b)
  | Ok found ↦ said_with h all found
]

-- what the stream that these bytes are says, or why they are none
unfoldable pub parse : List ℕ → Result Said StreamFault
parse bytes = elim (header_fault bytes) [
  | Some f ↦ Err (faults.Header f)
  | None ↦ said_behind (header_of bytes) (length (to_bits bytes)) (code_bits bytes)
]

-- what `restore` answers for an input of these bytes
abbrev pub restore_answer : List ℕ → Result (Unit {0}) StreamFault
restore_answer bytes = result_map_both (λ said. tt) (λ e. e) (parse bytes)

-- as many bits as the longest code of a block has, and the longest codes of all blocks have together
abbrev pub longest_code : Header → ℕ
longest_code h = longest_of h.mode
  where
    longest_of : Mode → ℕ
    longest_of Reversible = longest_rev (bits (width_of h.ty)) (length h.shape)
    longest_of (Rate b) = b
    longest_of (Precision p) = longest_prec (bits (width_of h.ty)) (length h.shape)

abbrev pub longest_codes : Header → ℕ
longest_codes h = blocks h.shape * longest_code h

-- the raw values that are read of bits continued with zeros
abbrev pub text_behind : Header → List Bool → List ℕ
text_behind h s = elim (read_codes h 0 (blocks h.shape) (s ++ replicate (longest_codes h) false)) [
  | Ok found ↦ raw_bytes h (values_of_blocks h.shape found.0)
  | Err b ↦ []
]

-- and those of bytes; nothing where they have no good header
unfoldable pub restored_text : List ℕ → List ℕ
restored_text bytes = if is_none (header_fault bytes) then text_behind (header_of bytes) (code_bits bytes)
    else []
