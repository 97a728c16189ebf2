-- Streams of narrow values, there and back.
use Rattle.std.proofs.Common.{rules, ◌≡◌, ℕ, ◌*◌, ◌/◌, ◌%◌, ◌<◌, List, All, length, Ok, arith}
use Rattle.zf_spec.proofs.RawValues.{raw_small}
use Rattle.zf_base.specs.declared.lane.Ty.TheVariants.{I32}
use Rattle.zf_header.{specs.declared.header.Header.{Header}, specs.HeaderBits.{IsHeader}}
use Rattle.zf_header.specs.declared.header.Mode.TheVariants.{Reversible}
use Rattle.zf_parse.proofs.Parsed.{good_header}
use Rattle.zf_parse.proofs.StreamsBack.{header_of-stream_text, answer-stream_text, text-reversible_text}
use Rattle.zf_narrow.{specs.declared.narrow.Narrow.{Narrow}, specs.Values.{size_of}}
use Rattle.zf_narrow.{specs.RawNarrow.{promoted_bytes}, proofs.Whole.{length-promoted_bytes}}
use Rattle.zf_narrow.specs.Texts.{narrow_len, narrow_text, restore_narrow_answer, narrow_restored}
use Rattle.zf_narrow.{proofs.RoundTrip.{demoted_bytes-promoted_bytes}, proofs.Compressed.{raw_len-int32}}

pub answer-narrow_text : (n : Narrow) (h : Header) (bytes : List ℕ) → IsHeader h → h.ty ≡ I32 → restore_narrow_answer (narrow_text n h bytes) ≡ Ok tt
answer-narrow_text n h bytes is_header int32 = search (rules, answer-stream_text, header_of-stream_text, good_header)

-- so many whole values
counts : (n : Narrow) (l p : ℕ) → l ≡ size_of n * p → (l % size_of n ≡ 0) × (l / size_of n * 4 ≡ 4 * p)
counts n l p is = grind arith

pub text-narrow_text : (n : Narrow) (h : Header) (bytes : List ℕ) → IsHeader h → h.ty ≡ I32 → h.mode ≡ Reversible → length bytes ≡ narrow_len n h → All (λ b. b < 256) bytes
    → narrow_restored n (narrow_text n h bytes) ≡ bytes
text-narrow_text n h bytes is_header int32 mode long small =
    let t = promoted_bytes n bytes in search (rules, counts, length-promoted_bytes, raw_len-int32, text-reversible_text, raw_small, demoted_bytes-promoted_bytes)
