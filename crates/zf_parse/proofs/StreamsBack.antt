-- What the stream of an array's values parses to.
use Rattle.std.proofs.Common.{◌≡◌, refl, sym, ap, subst, ◌∙◌, ℕ, ◌<◌, Bool, ℤ, FitsSigned, Ok, Some, List, ◌++◌, map, length, All, mul_comm, rules}
use Rattle.std.specs.Int.{byte_len}
use Rattle.zf_spec.{specs.Grid.{product, blocks, upto, extent_of, block_of}, specs.Codes.{round, round_prec}}
use Rattle.zf_spec.specs.Stream.{values_from, block_code, file, stream, stream_of_bytes, with_fill, to_bytes}
use Rattle.zf_spec.proofs.Bytes.{first_bytes-all}
use Rattle.zf_spec.proofs.RawValues.{length-values_from, values_from_fit, raw-values_from}
use Rattle.zf_base.specs.Widths.{width_of}
use Rattle.zf_header.{specs.declared.header.Header.{Header}, specs.declared.header.Mode.{Mode}}
use Rattle.zf_header.specs.declared.header.Mode.TheVariants.{Reversible, Rate, Precision}
use Rattle.zf_header.specs.HeaderBits.{coding, IsHeader, header_bits}
use Rattle.zf_parse.specs.Raw.{raw_len, raw_bytes, stream_of, stream_text}
use Rattle.zf_parse.specs.Parsing.{read_code, values_of_blocks, header_of, said_of, parse, restored_text, restore_answer}
use Rattle.zf_parse.{proofs.Steps.{values_said, restore_answer-values}, proofs.TextOfParse.{text_of_parse}}
use Rattle.zf_parse.proofs.Joined.{values_of_blocks-blocks}
use Rattle.zf_parse.proofs.ParseOfStream.{end_to_end, ReadsBack, header_of-file, parse-file}
use Rattle.zf_parse.proofs.BlocksBack.{reads_reversible, reads_rate, reads_prec}

-- the code of block b
abbrev code_of : Header → List ℤ → ℕ → List Bool
code_of h values b = block_code (width_of h.ty) (coding h.mode) (extent_of h.shape b) (block_of h.shape values b)

stream_of-codes : (h : Header) (values : List ℤ) → to_bytes (with_fill (header_bits h ++ end_to_end (code_of h values) (upto (blocks h.shape)))) ≡ stream_of h values
unfolding stream_of stream file header_bits
stream_of-codes h values = refl

-- its header says what it was made with
pub header_of-stream_of : (h : Header) (values : List ℤ) → IsHeader h → header_of (stream_of h values) ≡ h
header_of-stream_of h values is_header =
    ap header_of (sym (stream_of-codes h values)) ∙ header_of-file h (code_of h values) is_header

-- what a fixed rate makes of an array of values
abbrev rounded : Header → ℕ → List ℤ → List ℤ
rounded h budget values = values_of_blocks h.shape (map (λ b. round (width_of h.ty) budget (extent_of h.shape b) (block_of h.shape values b)) (upto (blocks h.shape)))

-- and what a fixed precision does
abbrev rounded_prec : Header → ℕ → List ℤ → List ℤ
rounded_prec h p values = values_of_blocks h.shape (map (λ b. round_prec (width_of h.ty) p (extent_of h.shape b) (block_of h.shape values b)) (upto (blocks h.shape)))

-- what the stream of values says: the codes of its blocks, and what they stand for
module _ (h : Header) (values : List ℤ) (is_header : IsHeader h) where
  said-stream_of : (back : ℕ → List ℤ) → ((b : ℕ) → b < blocks h.shape → ReadsBack h (code_of h values) back b)
      → let found = values_of_blocks h.shape (map back (upto (blocks h.shape))) in
      (values_said (stream_of h values) ≡ Ok found) × (parse (stream_of h values) ≡ Ok (said_of h values found))
  said-stream_of back reads =
      let said = parse-file h (code_of h values) is_header back reads in
      (ap values_said (sym (stream_of-codes h values)) ∙ said.0, ap parse (sym (stream_of-codes h values)) ∙ said.1)

  -- without loss the values come back
  pub said-reversible : h.mode ≡ Reversible → length values ≡ product h.shape → All (λ v. FitsSigned (width_of h.ty) v) values
      → (values_said (stream_of h values) ≡ Ok values) × (parse (stream_of h values) ≡ Ok (said_of h values values))
  said-reversible mode long fits =
      let said = said-stream_of (block_of h.shape values)
      (λ b lt more.
      let w = width_of h.ty in
      let es = extent_of h.shape b in
      let block = block_of h.shape values b in
      let Read : Mode → Type 0 = λ m. read_code w m es (block_code w (coding m) es block ++ more) ≡ Some (block, length (block_code w (coding m) es block)) in
      subst Read (sym mode) (reads_reversible h.ty h.shape values b more is_header.shape lt fits)) in
      let back = values_of_blocks-blocks h.shape values long in
      (said.0 ∙ ap (λ (vs : List ℤ). Ok vs) back, said.1 ∙ ap (λ (vs : List ℤ). Ok (said_of h values vs)) back)

  -- at a fixed rate what the rate makes of each block
  pub said-rate : (budget : ℕ) → h.mode ≡ Rate budget
      → (values_said (stream_of h values) ≡ Ok (rounded h budget values)) × (parse (stream_of h values) ≡ Ok (said_of h values (rounded h budget values)))
  said-rate budget mode = search (rules, said-stream_of, reads_rate)

  -- at a fixed precision what the precision makes of each block
  pub said-prec : (p : ℕ) → h.mode ≡ Precision p
      → (values_said (stream_of h values) ≡ Ok (rounded_prec h p values)) × (parse (stream_of h values) ≡ Ok (said_of h values (rounded_prec h p values)))
  said-prec p mode = search (rules, said-stream_of, reads_prec)

-- ---- raw values

stream_text-values : (h : Header) (bytes : List ℕ) → stream_text h bytes ≡ stream_of h (values_from (width_of h.ty) (product h.shape) bytes)
unfolding stream_text stream_of stream_of_bytes
stream_text-values h bytes = refl

pub header_of-stream_text : (h : Header) (bytes : List ℕ) → IsHeader h → header_of (stream_text h bytes) ≡ h
header_of-stream_text h bytes is_header =
    ap header_of (stream_text-values h bytes) ∙ header_of-stream_of h (values_from (width_of h.ty) (product h.shape) bytes) is_header

module _ (h : Header) (bytes : List ℕ) (is_header : IsHeader h) where
  said-reversible_text : h.mode ≡ Reversible → values_said (stream_text h bytes) ≡ Ok (values_from (width_of h.ty) (product h.shape) bytes)
  said-reversible_text mode =
      search (rules, stream_text-values, said-reversible, length-values_from, values_from_fit)

  said-rate_text : (budget : ℕ) → h.mode ≡ Rate budget → values_said (stream_text h bytes) ≡ Ok (rounded h budget (values_from (width_of h.ty) (product h.shape) bytes))
  said-rate_text budget mode =
      ap values_said (stream_text-values h bytes) ∙ (said-rate h (values_from (width_of h.ty) (product h.shape) bytes) is_header budget mode).0

  said-prec_text : (p : ℕ) → h.mode ≡ Precision p → values_said (stream_text h bytes) ≡ Ok (rounded_prec h p (values_from (width_of h.ty) (product h.shape) bytes))
  said-prec_text p mode =
      ap values_said (stream_text-values h bytes) ∙ (said-prec h (values_from (width_of h.ty) (product h.shape) bytes) is_header p mode).0

  -- each stream is good
  pub answer-stream_text : restore_answer (stream_text h bytes) ≡ Ok tt
  answer-stream_text =
      search (rules, restore_answer-values, said-reversible_text, said-rate_text, said-prec_text)

  -- what is restored of it is the raw bytes of the values that it parses to
  text-parsed : (values : List ℤ) → values_said (stream_text h bytes) ≡ Ok values → restored_text (stream_text h bytes) ≡ raw_bytes h values
  text-parsed values parsed =
      cc (text_of_parse (stream_text h bytes) values parsed, header_of-stream_text h bytes is_header)

  pub text-rate_text : (budget : ℕ) → h.mode ≡ Rate budget
      → restored_text (stream_text h bytes) ≡ raw_bytes h (rounded h budget (values_from (width_of h.ty) (product h.shape) bytes))
  text-rate_text budget mode = text-parsed (rounded h budget (values_from (width_of h.ty) (product h.shape) bytes)) (said-rate_text budget mode)

  pub text-prec_text : (p : ℕ) → h.mode ≡ Precision p
      → restored_text (stream_text h bytes) ≡ raw_bytes h (rounded_prec h p (values_from (width_of h.ty) (product h.shape) bytes))
  text-prec_text p mode = text-parsed (rounded_prec h p (values_from (width_of h.ty) (product h.shape) bytes)) (said-prec_text p mode)

  -- without loss these are the raw bytes that were given
  pub text-reversible_text : h.mode ≡ Reversible → length bytes ≡ raw_len h → All (λ b. b < 256) bytes → restored_text (stream_text h bytes) ≡ bytes
  text-reversible_text mode long small =
      let w = width_of h.ty in
      let n = product h.shape in
      let said = text-parsed (values_from w n bytes) (said-reversible_text mode) in
      cc (raw-values_from w n bytes small, mul_comm n (byte_len w), first_bytes-all bytes)
