-- How many bits a code has at most.
use Rattle.std.proofs.Common.{◌≡◌, ℕ, ◌+◌, ◌*◌, ◌^◌, ◌≤◌, min, Bool, ltb, ℤ, Some, List, length, take, drop, arith, rules}
use Rattle.std.proofs.Math.Nat.{pow-le-pow_right, mul-le-mul}
use mir.Val.{bits}
use Rattle.zf_spec.{specs.Numbers.{number}, specs.Planes.{code}, specs.ReadPlanes.{planes_in}}
use Rattle.zf_spec.specs.Codes.{count_bits, read_rev, read_prec}
use Rattle.zf_base.{specs.declared.lane.Ty.{Ty}, specs.Widths.{width_of}}
use Rattle.zf_header.{specs.declared.header.Mode.{Mode}, specs.HeaderBits.{IsMode}}
use Rattle.zf_header.specs.declared.header.Mode.TheVariants.{Reversible, Rate, Precision}
use Rattle.zf_parse.{specs.Parsing.{read_code}, proofs.BlocksBack.{width_at_most_64}}
use Rattle.zf_parse.{proofs.Enough.{planes_fit, count_fits}, proofs.Prefixes.{found_some}}

-- the planes of a block have few bits
few : (ty : Ty) (d : ℕ) → d ≤ 4 → 4 ^ d * (bits (width_of ty) + 1) ≤ 16640
few ty d le = search (rules, pow-le-pow_right, width_at_most_64, mul-le-mul)

rev_few : (ty : Ty) (es : List ℕ) (s : List Bool) (block : List ℤ) (k : ℕ) → length es ≤ 4 → read_rev (width_of ty) es s ≡ Some (block, k) → k ≤ 32768
unfolding read_rev
rev_few ty es s block k le e =
    let w = width_of ty in
    let count = count_fits ty s in
    let ps = planes_in (number (take (count_bits w) s) + 1) (4 ^ length es) (drop (count_bits w) s) in
    let fit = planes_fit (number (take (count_bits w) s) + 1) (4 ^ length es) (bits w) (drop (count_bits w) s) count.0 in
    let is = found_some (ltb (length s) (count_bits w + length (code ps))) _ block (count_bits w + length (code ps)) k e in
    omega (arith, is.count, fit, count.1, few ty (length es) le)

prec_few : (ty : Ty) (p : ℕ) (es : List ℕ) (s : List Bool) (block : List ℤ) (k : ℕ) → length es ≤ 4 → read_prec (width_of ty) p es s ≡ Some (block, k) → k ≤ 32768
unfolding read_prec
prec_few ty p es s block k le e =
    let w = width_of ty in
    let ps = planes_in (min p (bits w)) (4 ^ length es) s in
    let fit = planes_fit (min p (bits w)) (4 ^ length es) (bits w) s (omega arith) in
    let is = found_some (ltb (length s) (length (code ps))) _ block (length (code ps)) k e in
    omega (arith, is.count, fit, few ty (length es) le)

-- no code has more than 32768 bits
pub code_few : (ty : Ty) (mode : Mode) (es : List ℕ) (s : List Bool) (block : List ℤ) (k : ℕ) → IsMode mode → length es ≤ 4 → read_code (width_of ty) mode es s ≡ Some (block, k) → k ≤ 32768
code_few ty Reversible es s block k is le e = rev_few ty es s block k le e
code_few ty (Rate b) es s block k is le e = let read = found_some (ltb (length s) b) _ block b k e in omega (arith, read.count, is.1)
code_few ty (Precision p) es s block k is le e = prec_few ty p es s block k le e
