-- How far what a fixed rate makes of a block is from the block, where planes from some plane up are kept whole.
use Rattle.std.proofs.Common.{◌≡◌, refl, sym, ap, subst, ◌∙◌, ℕ, zero, suc, ◌+◌, ◌-◌, ◌*◌, ◌^◌, ◌<◌, ◌≤◌, Bool, ℤ, List, length, take, All, arith, rules}
use Rattle.std.{specs.Int.{Width, w8}, proofs.lemmas.Bool.{cases_lt}}
use Rattle.std.proofs.lemmas.List.{get_or_past}
use mir.Val.{bits, hbits}
use Rattle.zf_spec.{specs.Padding.{pad}, specs.Lift.{lift, lift_line, unlift}, specs.Kept.{kept_planes}}
use Rattle.zf_spec.specs.Codes.{planes, coefficients_of, existing_values, round}
use Rattle.zf_spec.proofs.Padding.{IsExtent, length-pad, get_or-pad, existing_values-pad, length-existing_values, get_or-existing_values}
use Rattle.zf_spec.proofs.PlaneDigits.{length-coefficients_of}
use Rattle.zf_axes.proofs.AxisByAxis.{length-along_axes}
use Rattle.zf_bound.specs.Errors.{AreWithin, AreClose, lost_below, grown, IsSmallEnough}
use Rattle.zf_bound.{proofs.Lines.{zero_within}, proofs.Axes.{lifted_within, restored_close}}
use Rattle.zf_bound.proofs.LostDigits.{coefficients_close}

-- ---- the premise

bits_less_one : (w : Width) → hbits w ≡ bits w - 1
bits_less_one w8 = refl
bits_less_one w = refl

pub power_half : (w : Width) → 2 ^ hbits w ≡ 2 ^ (bits w - 1)
power_half w = ap (λ n. 2 ^ n) (bits_less_one w)

pub small_enough : (w : Width) (m e : ℕ) → IsSmallEnough (bits w) m e → 8 * (m + e + 17) < 2 ^ hbits w
small_enough w m e h = rw bits_less_one h

-- an error does not shrink
pub grown-le : (d e : ℕ) → e ≤ grown d e
grown-le zero e = omega arith
grown-le (suc d) e = let rest = grown-le d e in omega arith

-- ---- padding and existing values

pub pad_within : (es : List ℕ) (block : List ℤ) (m : ℕ) → AreWithin m block → AreWithin m (pad es block)
pad_within es block m small p = search (rules, get_or-pad, get_or_past, length-pad, zero_within, cases_lt)

pub existing_close : (es : List ℕ) (e : ℕ) (a b : List ℤ) → AreClose e a b → AreClose e (existing_values es a) (existing_values es b)
existing_close es e a b near p = search (rules, get_or-existing_values, get_or_past, length-existing_values, zero_within, cases_lt)

-- ---- a whole block

-- the coefficients from planes that are the same from plane k up come back close to the block
pub whole_close : (w : Width) (d : ℕ) (a : List ℤ) (qs : List (List Bool)) (m k : ℕ) → d ≤ 4 → length a ≡ 4 ^ d → k ≤ bits w
    → IsSmallEnough (bits w) m (grown d (lost_below k)) → AreWithin m a → take (bits w - k) qs ≡ take (bits w - k) (planes w d (lift w d a))
    → AreClose (grown d (lost_below k)) a (unlift w d (coefficients_of w d qs))
whole_close w d a qs m k few long inside premise small same =
    let room = small_enough w m (grown d (lost_below k)) premise in
    let less = grown-le d (lost_below k) in
    let c = lift w d a in
    let length_c : length c ≡ 4 ^ d = length-along_axes (lift_line w) 1 d a ∙ long in
    let c_small = lifted_within w 1 d a m (omega (arith, room)) small in
    let near = coefficients_close w d c qs (m + 4 * d) k length_c inside (omega (arith, room, less)) c_small same in
    let one : 4 ^ d ≡ 1 * (4 ^ d * 1) = omega arith in
    restored_close w 1 d 1 a (coefficients_of w d qs) m (lost_below k) (omega arith) (long ∙ one) (length-coefficients_of w d qs ∙ sym long) (omega (arith, room)) small near

-- ---- a block with extents

pub round_close : (w : Width) (budget : ℕ) (es : List ℕ) (block : List ℤ) (m k : ℕ) → length es ≤ 4 → All IsExtent es → k ≤ bits w
    → IsSmallEnough (bits w) m (grown (length es) (lost_below k)) → AreWithin m block
    → let ps = planes w (length es) (lift w (length es) (pad es block)) in
    take (bits w - k) (kept_planes budget ps) ≡ take (bits w - k) ps
    → AreClose (grown (length es) (lost_below k)) (existing_values es block) (round w budget es block)
unfolding round
round_close w budget es block m k few sizes inside premise small same =
    let d = length es in
    let e = grown d (lost_below k) in
    let qs = kept_planes budget (planes w d (lift w d (pad es block))) in
    let whole = whole_close w d (pad es block) qs m k few (length-pad es block) inside premise (pad_within es block m small) same in
    subst (λ (vs : List ℤ). AreClose e vs (existing_values es (unlift w d (coefficients_of w d qs)))) (existing_values-pad es block sizes)
    (existing_close es e (pad es block) (unlift w d (coefficients_of w d qs)) whole)
