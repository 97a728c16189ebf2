-- The blocks of an array come back from their codes.
use Rattle.std.proofs.Common.{◌≡◌, refl, sym, ap, subst, ◌∙◌, ℕ, ◌^◌, ◌<◌, ◌≤◌, Bool, true, false, cond, ltb, le-ltb, ℤ, pos, FitsSigned, Some, List, ◌++◌, length, get_or, All, take_at, length-append, arith, rules}
use Rattle.std.{proofs.lemmas.List.Elements.{All-from_get_or}, specs.Int.{Width}, proofs.lemmas.Bool.{cond_both}}
use mir.Val.{bits}
use Rattle.zf_spec.specs.Grid.{IsShape, grid, blocks, coordinates, raster, is_inside, indices, extents, extent_of, position_in, value_at, block_of}
use Rattle.zf_spec.specs.Codes.{existing_values, rev, rate, prec, round, round_prec}
use Rattle.zf_spec.proofs.Wrapping.{zero_fits}
use Rattle.zf_spec.proofs.Counting.{length-map-upto, get_or-map-upto, from_places}
use Rattle.zf_spec.proofs.Padding.{length-existing_values, get_or-existing_values, get_or_all}
use Rattle.zf_spec.proofs.BlockReading.{read_rev-rev, read_rate-rate, read_prec-prec, length-rate}
use Rattle.zf_base.{specs.declared.lane.Ty.{Ty}, specs.declared.lane.Ty.TheVariants.{I32, I64}}
use Rattle.zf_base.{specs.Widths.{width_of}, proofs.Extents.{length-extent_of}}
use Rattle.zf_pad.proofs.Blocks.{all_extents}
use Rattle.zf_header.specs.declared.header.Mode.TheVariants.{Reversible, Rate, Precision}
use Rattle.zf_parse.specs.Parsing.{read_code}

-- ---- a block of an array

-- its values are of the type
block_fits : (w : Width) (ns : List ℕ) (values : List ℤ) (b : ℕ) → All (λ v. FitsSigned w v) values → All (λ v. FitsSigned w v) (block_of ns values b)
block_fits w ns values b all =
    let cs = coordinates (grid ns) b in
    let size = 4 ^ length ns in
    All-from_get_or (λ v. FitsSigned w v) (block_of ns values b) (pos 0)
    (λ p s.
    let small : p < size = omega (arith, s, length-map-upto (value_at ns values cs) size) in
    let at = raster ns (position_in cs (indices (length ns) p)) in
    subst (λ v. FitsSigned w v) (sym (get_or-map-upto (value_at ns values cs) size p (pos 0) small))
    (cond_both (is_inside (extents ns cs) (indices (length ns) p)) (get_or values at (pos 0)) (pos 0) (λ v. FitsSigned w v) (λ yes. get_or_all (λ v. FitsSigned w v) values at (zero_fits w) all) (λ no. zero_fits w)))

cond_twice : (t : Bool) (v : ℤ) → cond t (cond t v (pos 0)) (pos 0) ≡ cond t v (pos 0)
cond_twice true v = refl
cond_twice false v = refl

-- it has no value where no place exists
pub existing_values-block_of : (ns : List ℕ) (values : List ℤ) (b : ℕ) → existing_values (extent_of ns b) (block_of ns values b) ≡ block_of ns values b
existing_values-block_of ns values b =
    let cs = coordinates (grid ns) b in
    let es = extent_of ns b in
    let block = block_of ns values b in
    let size = 4 ^ length ns in
    let dims : length es ≡ length ns = length-extent_of ns b in
    let sizes : 4 ^ length es ≡ size = ap (λ d. 4 ^ d) dims in
    sym (from_places (value_at ns values cs) size (pos 0) (existing_values es block) (length-existing_values es block ∙ sizes)
    (λ p lt.
    let small : p < 4 ^ length es = omega (arith, lt, sizes) in
    let t = is_inside es (indices (length ns) p) in
    cc (get_or-existing_values es block p small, get_or-map-upto (value_at ns values cs) size p (pos 0) lt, cond_twice t (get_or values (raster ns (position_in cs (indices (length ns) p))) (pos 0)))))

-- ---- its code

pub width_at_most_64 : (ty : Ty) → bits (width_of ty) ≤ 64
width_at_most_64 I32 = omega arith
width_at_most_64 I64 = omega arith

-- without loss the block comes back
pub reads_reversible : (ty : Ty) (ns : List ℕ) (values : List ℤ) (b : ℕ) (more : List Bool) → IsShape ns → b < blocks ns → All (λ v. FitsSigned (width_of ty) v) values
    → let code = rev (width_of ty) (extent_of ns b) (block_of ns values b) in
    read_code (width_of ty) Reversible (extent_of ns b) (code ++ more) ≡ Some (block_of ns values b, length code)
reads_reversible ty ns values b more shape lt all =
    search (rules, read_rev-rev, width_at_most_64, all_extents, block_fits, existing_values-block_of)

-- at a fixed rate what the rate makes of it
pub reads_rate : (w : Width) (budget : ℕ) (es : List ℕ) (block : List ℤ) (more : List Bool)
    → read_code w (Rate budget) es (rate w budget es block ++ more) ≡ Some (round w budget es block, length (rate w budget es block))
reads_rate w budget es block more =
    let code = rate w budget es block in
    let long : length code ≡ budget = length-rate w budget es block in
    let enough : ltb (length (code ++ more)) budget ≡ false = le-ltb (length (code ++ more)) budget (omega (arith, long, length-append code more)) in
    cc (take_at code more budget long, read_rate-rate w budget es block)

-- at a fixed precision what the precision makes of it
pub reads_prec : (w : Width) (p : ℕ) (es : List ℕ) (block : List ℤ) (more : List Bool)
    → read_code w (Precision p) es (prec w p es block ++ more) ≡ Some (round_prec w p es block, length (prec w p es block))
reads_prec w p es block more = read_prec-prec w p es block more
