-- What is certified of a file whose codes an index has.
use Rattle.std.proofs.Common.{◌≡◌, sym, ap, subst, ◌∙◌, ℕ, ◌+◌, ◌*◌, ◌<◌, ◌≤◌, Bool, ℤ, Some, List, length, take, rules}
use Rattle.std.{specs.Prelude.{IfOk}, specs.Int.{Width}, proofs.lemmas.Option.{none-some, same_Some}}
use mir.Val.{bits}
use Rattle.zf_spec.{specs.Grid.{IsShape, extent_of}, specs.Codes.{read_rate}, specs.Stream.{to_bits}}
use Rattle.zf_spec.{proofs.Bytes.{length-to_bits}, proofs.Counting.{map-upto_same, get_or-map-upto}}
use Rattle.zf_base.specs.Widths.{width_of}
use Rattle.zf_header.specs.declared.header.Header.{Header}
use Rattle.zf_header.{specs.declared.header.Mode.TheVariants.{Rate}, specs.HeaderBits.{IsRate, block_bits}}
use Rattle.zf_header.proofs.Modes.{mode_is_rate, rate_is_some}
use Rattle.zf_parse.specs.Parsing.{Said, parse, read_code, values_of_blocks}
use Rattle.zf_index.{specs.Spans.{Index, len_at, code_in, codes_in}, proofs.Places.{ends_within}}
use Rattle.zf_index.specs.Files.{IsIndexOf, found, block_read, len_read, blocks_found}
use Rattle.zf_bound.{specs.Errors.{IsSmallEnough}, specs.Bounds.{plane_of, error_of, IsBound}}
use Rattle.zf_bound.{specs.Spans.{AreInside}, proofs.Streams.{blocks_read, stream_close}}

-- ---- a fixed rate

-- what is found of a code at a fixed rate, where one is found
rate_found : (w : Width) (b n : ℕ) (es : List ℕ) (s : List Bool) → len_read (read_code w (Rate b) es s) ≡ Some n
    → (n ≡ b) × (block_read (read_code w (Rate b) es s) ≡ read_rate w es (take n s))
rate_found w b n es s = search (rules, none-some, same_Some)

-- ---- a file

module _ (bytes : List ℕ) (h : Header) (i : Index) (index : IsIndexOf bytes h i) where
  -- what is known of any stream is known of this one
  pub is_said : (P : Said → Type 0) → P (record { header = h; codes = codes_in i (to_bits bytes); values = values_of_blocks h.shape (blocks_found h i (to_bits bytes)) }) → IfOk (parse bytes) P
  is_said P known = subst (λ r. IfOk r P) (sym index.said) known

  module _ (rate : IsRate h.mode) where
    code_found : (b : ℕ) → b < length i.lens → (len_at i b ≡ block_bits h.mode) × (block_read (found h i (to_bits bytes) b) ≡ read_rate (width_of h.ty) (extent_of h.shape b) (code_in i (to_bits bytes) b))
    code_found b below = search (rules, mode_is_rate, rate_found)

    -- all codes lie in the file, and have room where the longest of any rate has
    pub are_inside : (room : ℕ) → 32832 ≤ room → AreInside i (8 * length bytes) room
    are_inside room fits b below =
        let ends = ends_within i b (length i.lens) below in search (rules, code_found, length-to_bits, rate_is_some)

    blocks_same : blocks_found h i (to_bits bytes) ≡ blocks_read h (codes_in i (to_bits bytes))
    blocks_same = search (rules, map-upto_same, code_found, get_or-map-upto)

    -- the bound
    pub bound_holds : (m k e width : ℕ) → IsShape h.shape → k ≡ plane_of (width_of h.ty) (length h.shape) (codes_in i (to_bits bytes)) → e ≡ error_of (length h.shape) k → width ≡ bits (width_of h.ty)
        → IsSmallEnough width m e → IfOk (parse bytes) (λ said. IsBound h said.codes m e said.values)
    bound_holds m k e width shape plane error wide premise =
        let cs = codes_in i (to_bits bytes) in
        let exact : e ≡ error_of (length h.shape) (plane_of (width_of h.ty) (length h.shape) cs) = error ∙ ap (error_of (length h.shape)) plane in
        let room : IsSmallEnough (bits (width_of h.ty)) m (error_of (length h.shape) (plane_of (width_of h.ty) (length h.shape) cs)) =
        subst (λ n. IsSmallEnough n m (error_of (length h.shape) (plane_of (width_of h.ty) (length h.shape) cs))) wide (subst (λ f. IsSmallEnough width m f) exact premise) in
        is_said (λ said. IsBound h said.codes m e said.values)
        (subst (λ (bs : List (List ℤ)). IsBound h cs m e (values_of_blocks h.shape bs)) (sym blocks_same)
        (subst (λ f. IsBound h cs m f (values_of_blocks h.shape (blocks_read h cs))) (sym exact)
        (λ contents these. stream_close h (block_bits h.mode) m cs contents shape (mode_is_rate h.mode rate) these room)))
