-- What is read of a stream: its header, and the codes of its blocks.
use Rattle.std.specs.Prelude.{ℕ, ◌≡◌, ◌≢◌, ◌+◌, ◌-◌, ◌*◌, ◌<◌, ◌≤◌, ◌⊎◌, min, ℤ, Bool, List, length, drop, take, Option, Some, None, Result, Err}
use Rattle.std.specs.Int.{Width}
use mir.Val.{bits}
use Rattle.zf_spec.specs.Grid.{blocks, block_of, extent_of}
use Rattle.zf_spec.specs.Codes.{count_bits, existing_values}
use Rattle.zf_base.specs.Widths.{width_of}
use Rattle.zf_bits.specs.Reader.{Reader, rest, Reads}
use Rattle.zf_header.specs.declared.header.Header.{Header}
use Rattle.zf_header.specs.declared.header.Mode.{Mode}
use Rattle.zf_header.specs.declared.header.Mode.TheVariants.{Reversible, Rate, Precision}
use Rattle.zf_header.specs.HeaderBits.{header_bits}
use Rattle.zf_header.specs.HeaderFaults.{header_fault}
use Rattle.zf_block.specs.Decoding.{ZerosNext}
use Rattle.zf_parse.specs.declared.fault.StreamFault.{StreamFault}
use Rattle.zf_parse.specs.declared.fault.StreamFault.TheVariants as faults
use Rattle.zf_parse.specs.Parsing.{header_of, read_code}

-- these bytes begin with this header, which has so many bits
pub record BeginsWithHeader (bytes : List ℕ) (h : Header) (bits : ℕ) : Type 0 where
  pub good : header_fault bytes ≡ None
  pub header : h ≡ header_of bytes
  pub bits_is : bits ≡ length (header_bits h)
  pub within : bits ≤ 8 * length bytes

-- the fault of the header of bytes, and no other
abbrev pub IsFaultOf : List ℕ → StreamFault → Type 0
IsFaultOf bytes (faults.Header f) = header_fault bytes ≡ Some f
IsFaultOf bytes e = ⊥

-- the header of a source that exposes its contents has no fault
abbrev pub HasGoodHeader : Option (List ℕ) → Type 0
HasGoodHeader None = Unit {0}
HasGoodHeader (Some bytes) = header_fault bytes ≡ None

-- a code of d dimensions was read, which stands for this block, and just its bits were passed
pub record ReadsCode (w : Width) (mode : Mode) (d : ℕ) (old new : Reader) (block : List ℤ) : Type 0 where
  pub code : (es : List ℕ) → length es ≡ d → read_code w mode es (rest old)
      ≡ Some (existing_values es block, new.at - old.at)
  pub passed : Reads old new (take (new.at - old.at) (rest old))

-- the bits end before the code does
pub record LacksCode (w : Width) (mode : Mode) (d : ℕ) (old : Reader) : Type 0 where
  pub code : (es : List ℕ) → length es ≡ d → read_code w mode es (rest old) ≡ None

-- bits begin with the code of a block of zeros: a count of one plane and its bit, or a bit of each plane that is
-- coded. What fills the code of a rate is anything
abbrev pub ZeroCodeNext : Width → Mode → List Bool → Type 0
ZeroCodeNext w Reversible s = ZerosNext (count_bits w + 1) (count_bits w + 1) s
ZeroCodeNext w (Rate budget) s = ZerosNext budget (min budget (bits w)) s
ZeroCodeNext w (Precision p) s = ZerosNext (min p (bits w)) (min p (bits w)) s

-- the code of block b was read, and the values are those from before but for its block
pub record ReadsBlock (h : Header) (b : ℕ) (old new : Reader) (before now : List ℤ) : Type 0 where
  pub code : read_code (width_of h.ty) h.mode (extent_of h.shape b) (rest old)
      ≡ Some (block_of h.shape now b, new.at - old.at)
  pub passed : rest new ≡ drop (new.at - old.at) (rest old)
  pub all : new.all ≡ old.all
  pub others : (a : ℕ) → a < blocks h.shape → a ≢ b → block_of h.shape now a ≡ block_of h.shape before a

-- the answer is a fault, unless there was no memory
abbrev pub IsFault : {T : Type 0} → Result T StreamFault → StreamFault → Type 0
IsFault answer e = (answer ≡ Err e) ⊎ (e ≡ faults.Memory)
