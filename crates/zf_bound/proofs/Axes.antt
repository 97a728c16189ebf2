-- Along all axes: how large the coefficients of a block are, and how far what comes back is from the block.
use Rattle.std.proofs.Common.{◌≡◌, refl, sym, ap, subst, ◌∙◌, ℕ, zero, suc, ◌+◌, ◌*◌, ◌/◌, ◌%◌, ◌^◌, ◌<◌, ◌≤◌, ℤ, pos, List, length, get_or, ⊎_elim, pow-suc, arith}
use Rattle.std.{specs.Int.RustNames.{unsigned_abs}, specs.Int.{Width}, proofs.lemmas.Bool.{cases_lt}}
use Rattle.std.{proofs.lemmas.List.{get_or_past}, proofs.Math.Nat.{mul-mod_left}}
use mir.Val.{hbits}
use Rattle.zf_spec.specs.Lift.{lift_line, unlift_line, along, along_axes, along_axes_back}
use Rattle.zf_axes.{proofs.Strides.{line_start, place-of_line}, proofs.AxisByAxis.{length-along_axes_back}}
use Rattle.zf_axes.proofs.LineByLine.{length-along, get_or-along}
use Rattle.zf_bound.{specs.Errors.{AreWithin, AreClose, grown}, proofs.Members.{get_or-member}}
use Rattle.zf_bound.proofs.Lines.{IsNear, zero_within, of_four, lift_line_within, unlift_line_near}

-- ---- a pass along one axis

lift_within : (n : Width) (s : ℕ) (block : List ℤ) (m : ℕ) → 8 * (m + 4) < 2 ^ hbits n → AreWithin m block → AreWithin (m + 4) (along (lift_line n) s block)
lift_within n s block m room small p = ⊎_elim
    (λ inside. subst (λ v. unsigned_abs v ≤ m + 4) (sym (get_or-along (lift_line n) s block p inside))
    (lift_line_within n (value 0) (value 1) (value 2) (value 3) m room (small _) (small _) (small _) (small _) (p / s % 4)))
    (λ past. subst (λ v. unsigned_abs v ≤ m + 4) (sym (get_or_past (along (lift_line n) s block) p (pos 0) (omega (arith, past, length-along (lift_line n) s block)))) (zero_within (m + 4)))
    (cases_lt p (length block))
  where
    value : ℕ → ℤ
    value k = get_or block (line_start s p + s * k) (pos 0)

-- the member of a line at its place among four
four_of : (value : ℕ → ℤ) (i : ℕ) → i < 4 → of_four (value 0) (value 1) (value 2) (value 3) i ≡ value i
four_of value (suc (suc (suc (suc i)))) h = absurd (omega arith)
four_of value i h = refl

unlift_near : (n : Width) (s : ℕ) (block turned : List ℤ) (m e : ℕ) → 0 < s → length block % (4 * s) ≡ 0 → length turned ≡ length block → 8 * (m + 4 + e) < 2 ^ hbits n
    → AreWithin m block → AreClose e (along (lift_line n) s block) turned → AreClose (4 * e + 4) block (along (unlift_line n) s turned)
unlift_near n s block turned m e some groups same room small near p = ⊎_elim
    (λ inside. at_place inside)
    (λ past. subst (λ v. IsNear (4 * e + 4) v (get_or (along (unlift_line n) s turned) p (pos 0))) (sym (get_or_past block p (pos 0) past))
    (subst (λ v. IsNear (4 * e + 4) (pos 0) v) (sym (get_or_past (along (unlift_line n) s turned) p (pos 0) (omega (arith, past, same, length-along (unlift_line n) s turned)))) (zero_within (4 * e + 4))))
    (cases_lt p (length block))
  where
    start : ℕ
    start = line_start s p

    value : ℕ → ℤ
    value k = get_or block (line_start s p + s * k) (pos 0)

    number : ℕ → ℤ
    number k = get_or turned (line_start s p + s * k) (pos 0)

    coefficient : p < length block → (k : ℕ) → k < 4 → IsNear e (get_or (lift_line n (value 0) (value 1) (value 2) (value 3)) k (pos 0)) (of_four (number 0) (number 1) (number 2) (number 3) k)
    coefficient inside k below =
        subst (λ v. IsNear e v (of_four (number 0) (number 1) (number 2) (number 3) k)) (get_or-member (lift_line n) s block p k some groups inside below)
        (subst (λ v. IsNear e (get_or (along (lift_line n) s block) (start + s * k) (pos 0)) v) (sym (four_of number k below)) (near (start + s * k)))

    at_place : p < length block → IsNear (4 * e + 4) (get_or block p (pos 0)) (get_or (along (unlift_line n) s turned) p (pos 0))
    at_place inside =
        let i = p / s % 4 in
        let index : i < 4 = omega arith in
        let place : get_or block p (pos 0) ≡ of_four (value 0) (value 1) (value 2) (value 3) i = ap (λ q. get_or block q (pos 0)) (place-of_line s p some) ∙ sym (four_of value i index) in
        subst (λ v. IsNear (4 * e + 4) v (get_or (along (unlift_line n) s turned) p (pos 0))) (sym place)
        (subst (λ v. IsNear (4 * e + 4) (of_four (value 0) (value 1) (value 2) (value 3) i) v) (sym (get_or-along (unlift_line n) s turned p (omega (arith, inside, same))))
        (unlift_line_near n (value 0) (value 1) (value 2) (value 3) (number 0) (number 1) (number 2) (number 3) m e room
        (small (start + s * 0)) (small (start + s * 1)) (small (start + s * 2)) (small (start + s * 3)) (coefficient inside) i))

-- ---- along d axes

pub lifted_within : (n : Width) (s d : ℕ) (block : List ℤ) (m : ℕ) → 8 * (m + 4 * d) < 2 ^ hbits n → AreWithin m block → AreWithin (m + 4 * d) (along_axes (lift_line n) s d block)
lifted_within n s zero block m room small p = let same : m + 4 * 0 ≡ m = omega arith in rw same (small p)
lifted_within n s (suc d) block m room small p =
    let same : m + 4 * suc d ≡ (m + 4) + 4 * d = omega arith in
    rw same (lifted_within n (4 * s) d (along (lift_line n) s block) (m + 4) (omega (arith, room)) (lift_within n s block m (omega (arith, room)) small) p)

-- numbers within e of the coefficients of a block come back within `grown d e` of the block
pub restored_close : (n : Width) (s d groups : ℕ) (block turned : List ℤ) (m e : ℕ) → 0 < s → length block ≡ groups * (4 ^ d * s) → length turned ≡ length block
    → 8 * (m + 4 * d + grown d e) < 2 ^ hbits n → AreWithin m block → AreClose e (along_axes (lift_line n) s d block) turned → AreClose (grown d e) block (along_axes_back (unlift_line n) s d turned)
restored_close n s zero groups block turned m e some count same room small near = near
restored_close n s (suc d) groups block turned m e some count same room small near =
    let passed = along (lift_line n) s block in
    let length_passed = length-along (lift_line n) s block in
    let power : groups * (4 ^ suc d * s) ≡ groups * (4 ^ d * (4 * s)) = ap (λ p. groups * (p * s)) (pow-suc 4 d) ∙ omega arith in
    let product : groups * (4 ^ d * (4 * s)) ≡ groups * 4 ^ d * (4 * s) = omega arith in
    let inner = restored_close n (4 * s) d groups passed turned (m + 4) e (omega arith) (length_passed ∙ count ∙ power) (same ∙ sym length_passed) (omega (arith, room))
    (lift_within n s block m (omega (arith, room)) small) near in
    let whole : length block % (4 * s) ≡ 0 =
    ap (λ k. k % (4 * s)) (count ∙ power ∙ product) ∙ mul-mod_left (groups * 4 ^ d) (4 * s) in
    unlift_near n s block (along_axes_back (unlift_line n) (4 * s) d turned) m (grown d e) some whole (length-along_axes_back (unlift_line n) (4 * s) d turned ∙ same) (omega (arith, room)) small inner
