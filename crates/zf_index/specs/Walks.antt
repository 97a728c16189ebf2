-- What a walk over the codes of a stream finds.
use Rattle.std.specs.Prelude.{ℕ, ◌≡◌, ◌≤◌, ◌⊎◌, Bool, List, length, drop, Some, Ok, Err}
use Rattle.std.specs.Int.{Width}
use Rattle.zf_spec.specs.Grid.{blocks}
use Rattle.zf_bits.specs.Reader.{Reader, rest}
use Rattle.zf_header.specs.declared.header.Header.{Header}
use Rattle.zf_header.specs.declared.header.Mode.{Mode}
use Rattle.zf_parse.specs.Parsing.{read_code, fill_answer, said_behind}
use Rattle.zf_index.specs.declared.fault.IndexFault.{IndexFault}
use Rattle.zf_index.specs.declared.fault.IndexFault.TheVariants.{Memory}
use Rattle.zf_index.specs.Spans.{Index, place}
use Rattle.zf_index.specs.Files.{len_read, AreRead, stream_fault}

-- a code of so many bits, of d dimensions, begins these bits
pub record HasCode (w : Width) (mode : Mode) (d : ℕ) (s : List Bool) (len : ℕ) : Type 0 where
  pub code : (es : List ℕ) → length es ≡ d → len_read (read_code w mode es s) ≡ Some len
  pub within : len ≤ length s

-- the codes of all blocks are read where they begin in these bits, and what stands behind them is good
pub record IsWalked (h : Header) (s : List Bool) (i : Index) : Type 0 where
  pub count : length i.lens ≡ blocks h.shape
  pub read : AreRead h i s
  pub within : place i (length i.lens) ≤ length s
  pub fill : fill_answer h (place i (length i.lens)) (drop (place i (length i.lens)) s) ≡ Ok tt

-- the fault of the codes and the fill from this place on, unless there was no memory
abbrev pub HasFault : Header → Reader → IndexFault → Type 0
HasFault h r e = (said_behind h (length r.all) (rest r) ≡ Err (stream_fault e)) ⊎ (e ≡ Memory)
