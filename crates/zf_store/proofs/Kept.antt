-- What follows from what holds of the fields of a store.
use Rattle.std.proofs.Common.{◌≡◌, refl, sym, ap, ◌∙◌, ℕ, ◌+◌, ◌-◌, ◌*◌, ◌^◌, ◌<◌, ◌≤◌, Bool, false, ℤ, List, [], ◌++◌, length, take, drop, replicate, length-drop, arith, rules}
use Rattle.std.{specs.List.{flat_map}, specs.Int.{Width}}
use Rattle.std.proofs.lemmas.List.{length-take-le, take_at, drop_at, drop-replicate}
use Rattle.zf_spec.{specs.Grid.{blocks, extent_of}, specs.Codes.{existing_values, read_rate, rate}}
use Rattle.zf_spec.{specs.Numbers.{word_bits}, specs.Stream.{file, to_bytes, with_fill}}
use Rattle.zf_spec.proofs.WordBits.{length-word_bits}
use Rattle.zf_base.{specs.Formats.{existing_of, meant, encoded, with_at}, proofs.Extents.{length-extent_of}}
use Rattle.zf_bits.{specs.Writer.{Writer}, proofs.Packed.{flat_map-field-replicate}}
use Rattle.zf_header.{specs.declared.header.Header.{Header}, specs.HeaderBits.{block_bits, header_bits}}
use Rattle.zf_header.proofs.Parts.{length-header_bits_le}
use Rattle.zf_cached.specs.Arrays.{array_format}
use Rattle.zf_cached.proofs.Arrays.{existing_of-array, meant-rate, encoded-rate}
use Rattle.zf_store.{proofs.Opened.{all_bits_most}, specs.Words.{IsKept, all_bits, codes_in, with_codes}}
use Rattle.zf_store.specs.Stored.{Stored, IsStore, code_at, format_of, file_of}
use Rattle.zf_store.proofs.Cut.{behind_change, code_cut-take, codes_in-put, ends_within, get_or-codes_in, joined-codes_in, length-codes_in, words_are_filled}
use Rattle.zf_parse.proofs.RateStreams.{length-cut}

-- how many blocks there are, and how many places each has
pub blocks_is : (s : Stored) → (format_of s).blocks ≡ blocks s.header.shape
unfolding array_format
blocks_is s = refl

pub block_len_is : (s : Stored) → (format_of s).block_len ≡ 4 ^ length s.header.shape
unfolding array_format
block_len_is s = refl

-- a block of a store with this header, and a line of its size
pub below_blocks : (s : Stored) (h : Header) (codes : List (List Bool)) (b : ℕ) → record { header = h; codes = codes } ≡ s → b < (format_of s).blocks → b < blocks h.shape
below_blocks s h codes b same below = search (rules, blocks_is)

pub line_size : (s : Stored) (h : Header) (codes : List (List Bool)) (d n : ℕ) → record { header = h; codes = codes } ≡ s → length h.shape ≡ d → n ≡ (format_of s).block_len → n ≡ 4 ^ d
line_size s h codes d n same dims is = search (rules, block_len_is)

-- behind words of zeros there are zeros
pub blank_words : (count all : ℕ) → drop all (word_bits (replicate count 0)) ≡ replicate (64 * count - all) false
blank_words count all = ap (drop all) (flat_map-field-replicate 64 count) ∙ drop-replicate all (64 * count) false

-- a run that ends with the words, with zeros behind
pub blank_behind : (bits s : List Bool) (all n : ℕ) → all ≤ length s → bits ≡ take all s ++ replicate n false → drop all bits ≡ replicate n false
blank_behind bits s all n long is = ap (drop all) is ∙ drop_at (take all s) (replicate n false) all (length-take-le all s long)

module _ (w : Width) (d : ℕ) (h : Header) (words : List ℕ) (code head : Writer) (kept : IsKept w d h words code head) where
  pub bits_within : blocks h.shape * block_bits h.mode ≤ length (word_bits words)
  bits_within = omega (arith, kept.size, length-word_bits words)

  pub store_whole : IsStore w d (with_codes h (word_bits words))
  store_whole = search (rules, length-codes_in, get_or-codes_in, length-cut, bits_within)

  pub words_are : word_bits words ≡ with_fill (flat_map (λ c. c) (codes_in (block_bits h.mode) (blocks h.shape) (word_bits words)))
  words_are = words_are_filled words (all_bits h) kept.size kept.blank ∙ ap with_fill (sym (joined-codes_in (block_bits h.mode) (blocks h.shape) (word_bits words)))

  -- the bytes of the header and the codes are the file
  pub file_is : (prefix : List Bool) (n m : ℕ) → prefix ≡ with_fill head.bits → n ≡ length head.bits → m ≡ all_bits h → to_bytes (with_fill (take n prefix ++ take m (word_bits words))) ≡ file_of (with_codes h (word_bits words))
  unfolding file header_bits
  file_is prefix n m is_prefix is_n is_m = search (rules, take_at, joined-codes_in)

  pub bits_most : length head.bits + all_bits h < 2 ^ 50
  bits_most = omega (arith, ap length kept.head_is, length-header_bits_le h kept.shape, all_bits_most h kept.shape kept.rate)

  module _ (b : ℕ) (below : b < blocks h.shape) where
    -- the code of a block is read where it is
    pub code_there : block_bits h.mode ≤ length (drop (b * block_bits h.mode) (take (blocks h.shape * block_bits h.mode) (word_bits words)))
    code_there = omega (arith, length-drop {A = Bool}, length-take-le {A = Bool}, bits_within, ends_within (block_bits h.mode) (blocks h.shape) b below)

    pub code_read : take (block_bits h.mode) (drop (b * block_bits h.mode) (take (blocks h.shape * block_bits h.mode) (word_bits words))) ≡ code_at (with_codes h (word_bits words)) b
    code_read = code_cut-take (block_bits h.mode) (blocks h.shape) b (word_bits words) below ∙ sym (get_or-codes_in (block_bits h.mode) (blocks h.shape) (word_bits words) b below)

    -- a block that a code of these bits stands for is what the code means
    pub read_is_meant : (s : List Bool) (block : List ℤ) → s ≡ code_at (with_codes h (word_bits words)) b
        → ((es : List ℕ) → length es ≡ d → read_rate w es s ≡ existing_values es block)
        → existing_of (format_of (with_codes h (word_bits words))) b block ≡ meant (format_of (with_codes h (word_bits words))) b (code_at (with_codes h (word_bits words)) b)
    read_is_meant s block is reads = search (rules, existing_of-array, length-extent_of, meant-rate)

    -- the code of values is that of the format
    pub code_is_encoded : (es : List ℕ) (values : List ℤ) → es ≡ extent_of h.shape b → rate w (block_bits h.mode) es values ≡ encoded (format_of (with_codes h (word_bits words))) b values
    code_is_encoded es values is = search (rules, encoded-rate)

    -- the words with a code that was written by itself and then put
    pub put_is : (old fresh written : List ℕ) (at len : ℕ) (bits empty c : List Bool) → old ≡ words → at ≡ b * block_bits h.mode → len ≡ block_bits h.mode → word_bits written ≡ with_fill bits
        → bits ≡ empty ++ c → empty ≡ [] → length c ≡ block_bits h.mode → word_bits fresh ≡ take at (word_bits old) ++ take len (word_bits written) ++ drop (at + len) (word_bits old)
        → word_bits fresh ≡ take (b * block_bits h.mode) (word_bits words) ++ c ++ drop (b * block_bits h.mode + block_bits h.mode) (word_bits words)
    put_is old fresh written at len bits empty c is_old is_at is_len is_written is_bits is_empty long put = search (rules, take_at)

    -- a code is put
    module _ (c : List Bool) (new : List ℕ) (long : length c ≡ block_bits h.mode) (size : length new ≡ length words)
        (put : word_bits new ≡ take (b * block_bits h.mode) (word_bits words) ++ c ++ drop (b * block_bits h.mode + block_bits h.mode) (word_bits words)) where
      pub codes_put : (λ k. code_at (with_codes h (word_bits new)) k) ≡ with_at (λ k. code_at (with_codes h (word_bits words)) k) b c
      codes_put = codes_in-put (block_bits h.mode) (blocks h.shape) b (word_bits words) (word_bits new) c bits_within below long put

      pub kept_put : (code' : Writer) → length code'.bits ≡ block_bits h.mode → IsKept w d h new code' head
      kept_put code' is_code = search (rules, bits_within, ends_within, behind_change)
