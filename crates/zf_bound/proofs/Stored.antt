-- What was stored comes back within the bound.
use Rattle.std.proofs.Common.{◌≡◌, refl, sym, subst, ℕ, ℤ, Bool, List, map, length, rules}
use Rattle.std.specs.Prelude.{IfOk}
use mir.Val.{bits}
use Rattle.zf_spec.{specs.Grid.{product, blocks, extent_of, block_of, upto}, specs.Codes.{round}}
use Rattle.zf_spec.{proofs.Counting.{get_or-map-upto, map-upto_same}, proofs.BlockReading.{read_rate-rate}}
use Rattle.zf_spec.specs.Stream as stream
use Rattle.zf_base.specs.Widths.{width_of}
use Rattle.zf_header.{specs.declared.header.Header.{Header}, specs.declared.header.Mode.TheVariants.{Rate}}
use Rattle.zf_header.specs.HeaderBits.{coding, IsHeader}
use Rattle.zf_parse.{specs.Raw.{stream_of}, specs.Parsing.{parse, values_of_blocks}}
use Rattle.zf_parse.proofs.StreamsBack.{said-rate}
use Rattle.zf_bound.{specs.Errors.{AreWithin, AreClose, IsSmallEnough}, specs.Bounds.{plane_of, error_of}}
use Rattle.zf_bound.proofs.Streams.{blocks_read, stream_close}

-- the codes of values, and what the rate makes of each block
codes_of : Header → List ℤ → List (List Bool)
codes_of h values = stream.codes (width_of h.ty) h.shape (coding h.mode) values

rounded : Header → ℕ → List ℤ → ℕ → List ℤ
rounded h budget values b = round (width_of h.ty) budget (extent_of h.shape b) (block_of h.shape values b)

read_of_stored : (h : Header) (values : List ℤ) (budget : ℕ) → h.mode ≡ Rate budget → blocks_read h (codes_of h values) ≡ map (rounded h budget values) (upto (blocks h.shape))
unfolding codes_of rounded
read_of_stored h values budget is = search (rules, map-upto_same, rounded, get_or-map-upto, read_rate-rate)

pub stored_close : (h : Header) (values : List ℤ) (budget m : ℕ) → IsHeader h → h.mode ≡ Rate budget → length values ≡ product h.shape → AreWithin m values
    → let e = error_of (length h.shape) (plane_of (width_of h.ty) (length h.shape) (stream.codes (width_of h.ty) h.shape (coding h.mode) values)) in
    IsSmallEnough (bits (width_of h.ty)) m e → IfOk (parse (stream_of h values)) (λ said. AreClose e values said.values)
unfolding codes_of rounded
stored_close h values budget m is_header is count small premise =
    let cs = stream.codes (width_of h.ty) h.shape (coding h.mode) values in
    let e = error_of (length h.shape) (plane_of (width_of h.ty) (length h.shape) cs) in
    let near = stream_close h budget m cs values is_header.shape is (record { count = count; codes_are = refl; small = small }) premise in
    subst (λ r. IfOk r (λ said. AreClose e values said.values)) (sym (said-rate h values is_header budget is).1)
    (subst (λ (bs : List (List ℤ)). AreClose e values (values_of_blocks h.shape bs)) (read_of_stored h values budget is) near)
