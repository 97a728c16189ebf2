-- How far the values of a stream are from whatever contents have its codes.
use Rattle.std.proofs.Common.{◌≡◌, sym, ap, subst, ◌∙◌, ℕ, zero, suc, ◌-◌, ◌^◌, ◌<◌, ◌≤◌, Bool, ℤ, List, [], ◌∷◌, map, length, get_or, take, All, ⊎_elim, arith, rules}
use Rattle.std.{specs.Int.{Width}, proofs.lemmas.Bool.{cases_lt}, proofs.lemmas.List.{get_or_past}}
use mir.Val.{bits}
use Rattle.zf_spec.{specs.Grid.{IsShape, blocks, extent_of, block_of, blocks_of, upto}, specs.Padding.{pad}}
use Rattle.zf_spec.{specs.Kept.{kept_planes}, specs.Lift.{lift}, specs.ReadPlanes.{planes_in}}
use Rattle.zf_spec.{specs.Codes.{existing_values, rate, round, read_rate}, proofs.Full.{length-planes_in}}
use Rattle.zf_spec.{proofs.Counting.{length-map-upto, get_or-map-upto}, proofs.BlockReading.{read_rate-rate}}
use Rattle.zf_spec.proofs.PlaneDigits.{length-planes}
use Rattle.zf_spec.specs.Stream as stream
use Rattle.zf_base.{specs.Widths.{width_of}, proofs.Extents.{length-extent_of}}
use Rattle.zf_pad.proofs.Blocks.{all_extents}
use Rattle.zf_header.{specs.declared.header.Header.{Header}, specs.declared.header.Mode.TheVariants.{Rate}}
use Rattle.zf_header.specs.HeaderBits.{coding}
use Rattle.zf_block.{specs.WholePlanes.{planes_from, rate_whole_from}, proofs.Kept.{length-kept_planes}}
use Rattle.zf_block.proofs.WholePlanes.{planes_kept_from, block_planes, whole_from-le}
use Rattle.zf_parse.{specs.Parsing.{values_of_blocks}, proofs.Joined.{values_of_blocks-blocks}}
use Rattle.zf_parse.proofs.BlocksBack.{existing_values-block_of}
use Rattle.zf_bound.{specs.Errors.{AreWithin, AreClose, IsSmallEnough}, proofs.Lines.{zero_within}}
use Rattle.zf_bound.{specs.Bounds.{plane_of, error_of, AreContents}, proofs.Blocks.{round_close}}

-- ---- the plane of a stream

-- no block's is greater
pub plane_of-most : (w : Width) (d : ℕ) (codes : List (List Bool)) (b : ℕ) → b < length codes → rate_whole_from w d (get_or codes b []) ≤ plane_of w d codes
plane_of-most w d [] b h = absurd (omega arith)
plane_of-most w d (code ∷ codes) zero h = omega arith
plane_of-most w d (code ∷ codes) (suc b) h = let rest = plane_of-most w d codes b (omega arith) in omega arith

pub rate_whole_from-le : (w : Width) (d : ℕ) (code : List Bool) → rate_whole_from w d code ≤ bits w
unfolding rate_whole_from
rate_whole_from-le w d code = omega (arith, whole_from-le (length code) (planes_in (bits w) (4 ^ d) code), length-planes_in (bits w) (4 ^ d) code)

-- it is at most the width of the type
pub plane_of-le : (w : Width) (d : ℕ) (codes : List (List Bool)) → plane_of w d codes ≤ bits w
plane_of-le w d [] = omega arith
plane_of-le w d (code ∷ codes) = let rest = plane_of-le w d codes in let first = rate_whole_from-le w d code in omega arith

-- ---- a block of contents

-- planes that are kept, counted from the top
tops_kept : (w : Width) (budget : ℕ) (es : List ℕ) (block : List ℤ) (k : ℕ) → rate_whole_from w (length es) (rate w budget es block) ≤ k
    → take (bits w - k) (kept_planes budget (block_planes w es block)) ≡ take (bits w - k) (block_planes w es block)
unfolding planes_from
tops_kept w budget es block k from =
    let ps = block_planes w es block in
    let long = length-planes w (length es) (lift w (length es) (pad es block)) in
    let long_kept = length-kept_planes budget ps ∙ long in
    ap (λ n. take (n - k) (kept_planes budget ps)) (sym long_kept) ∙ planes_kept_from w budget es block k from ∙ ap (λ n. take (n - k) ps) long

-- what a fixed rate makes of a block, by the plane of its code
pub round_of_code : (w : Width) (budget : ℕ) (es : List ℕ) (block : List ℤ) (m : ℕ) → length es ≤ 4 → All (λ e. (1 ≤ e) × (e ≤ 4)) es → AreWithin m block
    → let k = rate_whole_from w (length es) (rate w budget es block) in
    IsSmallEnough (bits w) m (error_of (length es) k) → AreClose (error_of (length es) k) (existing_values es block) (round w budget es block)
round_of_code w budget es block m few sizes small premise = search (rules, round_close, rate_whole_from-le, tops_kept)

block_within : (ns : List ℕ) (values : List ℤ) (b m : ℕ) → AreWithin m values → AreWithin m (block_of ns values b)
block_within ns values b m small p = search (rules, get_or-map-upto, get_or_past, length-map-upto, zero_within, cases_lt)

-- what is read of its code is close to it
block_close : (w : Width) (budget : ℕ) (ns : List ℕ) (values : List ℤ) (b m k : ℕ) → IsShape ns → b < blocks ns → AreWithin m values
    → rate_whole_from w (length ns) (rate w budget (extent_of ns b) (block_of ns values b)) ≤ k → k ≤ bits w → IsSmallEnough (bits w) m (error_of (length ns) k)
    → AreClose (error_of (length ns) k) (block_of ns values b) (read_rate w (extent_of ns b) (rate w budget (extent_of ns b) (block_of ns values b)))
block_close w budget ns values b m k shape below small from inside premise =
    let es = extent_of ns b in
    let block = block_of ns values b in
    let dims : length es ≡ length ns = length-extent_of ns b in
    let near = round_close w budget es block m k (omega (arith, dims, shape.four_at_most)) (all_extents ns b shape below) inside
    (subst (λ d. IsSmallEnough (bits w) m (error_of d k)) (sym dims) premise) (block_within ns values b m small)
    (tops_kept w budget es block k (subst (λ d. rate_whole_from w d (rate w budget es block) ≤ k) (sym dims) from)) in
    subst (λ d. AreClose (error_of d k) block (read_rate w es (rate w budget es block))) dims
    (subst (λ (vs : List ℤ). AreClose (error_of (length es) k) vs (read_rate w es (rate w budget es block))) (existing_values-block_of ns values b)
    (subst (λ (vs : List ℤ). AreClose (error_of (length es) k) (existing_values es block) vs) (sym (read_rate-rate w budget es block)) near))

-- ---- all blocks

-- blocks that are close make values that are close
joined_close : (ns : List ℕ) (e : ℕ) (as' bs : List (List ℤ)) → ((b : ℕ) → AreClose e (get_or as' b []) (get_or bs b [])) → AreClose e (values_of_blocks ns as') (values_of_blocks ns bs)
joined_close ns e as' bs near k = search (rules, get_or-map-upto, get_or_past, length-map-upto, zero_within, cases_lt)

-- the blocks that are read of codes, one of each
abbrev pub blocks_read : Header → List (List Bool) → List (List ℤ)
blocks_read h codes = map (λ b. read_rate (width_of h.ty) (extent_of h.shape b) (get_or codes b [])) (upto (blocks h.shape))

-- the values of a stream are close to whatever contents have its codes
pub stream_close : (h : Header) (budget m : ℕ) (codes : List (List Bool)) (contents : List ℤ) → IsShape h.shape → h.mode ≡ Rate budget → AreContents h codes m contents
    → let k = plane_of (width_of h.ty) (length h.shape) codes in
    IsSmallEnough (bits (width_of h.ty)) m (error_of (length h.shape) k) → AreClose (error_of (length h.shape) k) contents (values_of_blocks h.shape (blocks_read h codes))
stream_close h budget m codes contents shape is these premise =
    subst (λ (vs : List ℤ). AreClose e vs (values_of_blocks h.shape (blocks_read h codes))) (values_of_blocks-blocks h.shape contents these.count)
    (joined_close h.shape e (blocks_of h.shape contents) (blocks_read h codes) each)
  where
    k : ℕ
    k = plane_of (width_of h.ty) (length h.shape) codes

    e : ℕ
    e = error_of (length h.shape) (plane_of (width_of h.ty) (length h.shape) codes)

    code : ℕ → List Bool
    code b = rate (width_of h.ty) budget (extent_of h.shape b) (block_of h.shape contents b)

    codes_are : map code (upto (blocks h.shape)) ≡ codes
    codes_are = subst (λ mode. stream.codes (width_of h.ty) h.shape (coding mode) contents ≡ codes) is these.codes_are

    code_is : (b : ℕ) → b < blocks h.shape → get_or codes b [] ≡ code b
    code_is b below = ap (λ (cs : List (List Bool)). get_or cs b []) (sym codes_are) ∙ get_or-map-upto code (blocks h.shape) b [] below

    each : (b : ℕ) → AreClose e (get_or (blocks_of h.shape contents) b []) (get_or (blocks_read h codes) b [])
    each b = ⊎_elim
        (λ below.
        subst (λ (vs : List ℤ). AreClose e vs (get_or (blocks_read h codes) b [])) (sym (get_or-map-upto (block_of h.shape contents) (blocks h.shape) b [] below))
        (subst (λ (vs : List ℤ). AreClose e (block_of h.shape contents b) vs)
        (sym (get_or-map-upto _ (blocks h.shape) b [] below ∙ ap (read_rate (width_of h.ty) (extent_of h.shape b)) (code_is b below)))
        (block_close (width_of h.ty) budget h.shape contents b m k shape below these.small
        (subst (λ c. rate_whole_from (width_of h.ty) (length h.shape) c ≤ k) (code_is b below) (plane_of-most (width_of h.ty) (length h.shape) codes b (omega (arith, below, ap length codes_are, length-map-upto code (blocks h.shape)))))
        (plane_of-le (width_of h.ty) (length h.shape) codes) premise)))
        (search (rules, get_or_past, length-map-upto, zero_within))
        (cases_lt b (blocks h.shape))
