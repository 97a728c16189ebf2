-- What reading the code of a block gives.
use Rattle.std.proofs.Common.{rules, ◌≡◌, ℕ, ◌+◌, ◌-◌, ◌*◌, ◌^◌, ◌≤◌, min, max, Bool, le-ltb, ℤ, FitsSigned, Some, List, ◌++◌, length, take, All, mod-eq_of_lt, mul-le-mul_left, arith}
use Rattle.std.{proofs.lemmas.List.{length-append, length-take}, proofs.lemmas.List.Elements.{All-take}}
use Rattle.std.{specs.Int.{Width}, proofs.Math.Nat.{one-le-pow}}
use mir.Val.{bits}
use Rattle.zf_spec.{specs.Numbers.{field}, specs.Padding.{pad}, specs.Lorenzo.{lorenzo, unlorenzo}}
use Rattle.zf_spec.{specs.Planes.{needed_planes, code}, specs.Lift.{lift}, proofs.Reach.{needed_planes-le}}
use Rattle.zf_spec.specs.Codes.{planes, coefficients_of, count_bits, rev_of_planes, rev, existing_values, read_rev, rate, round, read_rate, prec, round_prec, read_prec}
use Rattle.zf_spec.{proofs.Fields.{length-field, number-field}, proofs.PlaneCode.{length-code-le}}
use Rattle.zf_spec.{proofs.Beginnings.{begins_itself, length-first_bits}, proofs.Full.{full_only}}
use Rattle.zf_spec.proofs.KeptSame.{kept_planes-planes_in}
use Rattle.zf_spec.proofs.PlaneDigits.{length-planes, planes-length, coefficients_of-needed_planes}
use Rattle.zf_spec.proofs.Padding.{IsExtent, length-pad, existing_values-pad, pad_fits}
use Rattle.zf_spec.proofs.LorenzoInverse.{length-lorenzo, lorenzo_fits, unlorenzo-lorenzo}

-- the count of planes of a type of at most 64 bits has room in its field
count_bits_hold : (w : Width) → bits w ≤ 64 → bits w ≤ 2 ^ count_bits w
count_bits_hold w h = grind arith

bits_some : (w : Width) → 1 ≤ bits w
bits_some w = grind arith

-- reading the count of planes and their code, whatever comes after
read_rev-planes : (w : Width) (es : List ℕ) (qs : List (List Bool)) (more : List Bool) → 1 ≤ length qs → length qs ≤ 2 ^ count_bits w → All (λ ds. length ds ≡ 4 ^ length es) qs
    → read_rev w es (field (count_bits w) (length qs - 1) ++ code qs ++ more)
    ≡ Some (existing_values es (unlorenzo w (length es) (coefficients_of w (length es) qs)), count_bits w + length (code qs))
unfolding read_rev
read_rev-planes w es qs more some few all = search (rules, length-field, number-field, mod-eq_of_lt, full_only, begins_itself, le-ltb, length-append)

-- the existing values of a block come back from its code, whatever comes after, with the length of the code
pub read_rev-rev : (w : Width) (es : List ℕ) (block : List ℤ) (more : List Bool) → bits w ≤ 64 → All IsExtent es → All (λ v. FitsSigned w v) block
    → read_rev w es (rev w es block ++ more) ≡ Some (existing_values es block, length (rev w es block))
unfolding rev rev_of_planes
read_rev-rev w es block more narrow ok fits =
    let d = length es in
    let c = lorenzo w d (pad es block) in
    let ps = planes w d c in
    let p = max 1 (needed_planes ps) in
    let qs = take p ps in
    let few : p ≤ bits w = omega (arith, needed_planes-le ps, length-planes w d c, bits_some w) in
    let count : length qs ≡ p = omega (arith, length-take p ps, length-planes w d c, few) in
    let sizes = All-take (λ ds. length ds ≡ 4 ^ length es) p ps (planes-length w d c) in
    let read = read_rev-planes w es qs more (omega (arith, count)) (omega (arith, count, few, count_bits_hold w narrow)) sizes in
    let back = coefficients_of-needed_planes w d c (length-lorenzo w d (pad es block)) (lorenzo_fits w d (pad es block)) in
    let undone = unlorenzo-lorenzo w d (pad es block) (length-pad es block) (pad_fits w es block fits) in
    search (rules, length-append, existing_values-pad, length-field)

-- reading a rate code gives what the rate makes of the block
pub read_rate-rate : (w : Width) (budget : ℕ) (es : List ℕ) (block : List ℤ) → read_rate w es (rate w budget es block) ≡ round w budget es block
unfolding rate round read_rate
read_rate-rate w budget es block =
    let d = length es in
    let c = lift w d (pad es block) in
    let ps = planes w d c in
    let some = one-le-pow d 4 (omega arith) in
    let kept = kept_planes-planes_in (4 ^ d) budget ps some (planes-length w d c) in
    cc (length-first_bits budget (code ps), length-planes w d c)

-- reading a precision code gives what the precision makes of the block, whatever comes after, with the length of the code
pub read_prec-prec : (w : Width) (p : ℕ) (es : List ℕ) (block : List ℤ) (more : List Bool) → read_prec w p es (prec w p es block ++ more) ≡ Some (round_prec w p es block, length (prec w p es block))
unfolding prec round_prec read_prec
read_prec-prec w p es block more =
    let d = length es in
    let c = lift w d (pad es block) in
    let k = min p (bits w) in
    let qs = take k (planes w d c) in
    let count : length qs ≡ k = omega (arith, length-take k (planes w d c), length-planes w d c) in
    let sizes = All-take (λ ds. length ds ≡ 4 ^ d) k (planes w d c) (planes-length w d c) in
    let only = full_only (4 ^ d) qs (code qs ++ more) sizes (begins_itself (code qs) more) in
    cc (le-ltb (length (code qs ++ more)) (length (code qs)) (omega (arith, length-append (code qs) more)))

-- ---- how long the codes of a block are

pub length-prec-le : (w : Width) (p : ℕ) (es : List ℕ) (block : List ℤ) → length (prec w p es block) ≤ 4 ^ length es * (bits w + 1)
unfolding prec
length-prec-le w p es block =
    let ps = planes w (length es) (lift w (length es) (pad es block)) in
    let few : length (take (min p (bits w)) ps) ≤ bits w = omega (arith, length-take (min p (bits w)) ps) in
    let sizes = All-take (λ ds. length ds ≡ 4 ^ length es) (min p (bits w)) ps (planes-length w (length es) _) in
    omega (arith, length-code-le (4 ^ length es) (take (min p (bits w)) ps) sizes, mul-le-mul_left (4 ^ length es) few)

pub length-rate : (w : Width) (budget : ℕ) (es : List ℕ) (block : List ℤ) → length (rate w budget es block) ≡ budget
unfolding rate
length-rate w budget es block = length-first_bits budget (code (planes w (length es) (lift w (length es) (pad es block))))

pub length-rev-le : (w : Width) (es : List ℕ) (block : List ℤ) → length (rev w es block) ≤ count_bits w + 4 ^ length es * (bits w + 1)
unfolding rev rev_of_planes
length-rev-le w es block =
    let ps = planes w (length es) (lorenzo w (length es) (pad es block)) in
    let p = max 1 (needed_planes ps) in
    let qs = take p ps in
    let few : length qs ≤ bits w = omega (arith, length-take p ps, length-planes w (length es) (lorenzo w (length es) (pad es block))) in
    let bound = length-code-le (4 ^ length es) qs (All-take (λ ds. length ds ≡ 4 ^ length es) p ps (planes-length w (length es) (lorenzo w (length es) (pad es block)))) in
    omega (arith, bound, mul-le-mul_left (4 ^ length es) few, length-append (field (count_bits w) (p - 1)) (code qs), length-field (count_bits w) (p - 1))
