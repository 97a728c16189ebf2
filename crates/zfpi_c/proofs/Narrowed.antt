-- Values of 8 and 16 bits: their field says int32, and their stream is one of int32.
use Rattle.std.proofs.Common.{◌≡◌, refl, ℕ, List, length, Option, None, Some, arith}
use Rattle.std.proofs.lemmas.Bool.Decides.{nat_tests}
use Rattle.zf_base.{specs.declared.lane.Ty.{Ty}, specs.declared.lane.Ty.TheVariants.{I32, I64}}
use Rattle.zf_header.specs.declared.header.Header.{Header}
use Rattle.zf_narrow.{specs.declared.narrow.Narrow.{Narrow}, specs.RawNarrow.{promoted_bytes}}
use Rattle.zf_parse.specs.Raw.{stream_text}
use Rattle.zfpi_c.specs.Fields.{type_of, narrow_of, text_of}

pub says_int32 : (number : ℕ) (n : Narrow) (ty : Ty) → Some n ≡ narrow_of number → type_of number ≡ Some ty → ty ≡ I32
says_int32 number n I32 narrow is = refl
says_int32 number n I64 narrow is = absurd (grind (arith, nat_tests))

-- what holds of the length of each stream with a header holds of each of narrow values
pub of_all : (P : ℕ → Type 0) (n : Option Narrow) (h : Header) → ((raw : List ℕ) → P (length (stream_text h raw))) → (raw : List ℕ) → P (length (text_of n h raw))
of_all P None h all raw = all raw
of_all P (Some n) h all raw = all (promoted_bytes n raw)
