-- The code of zeros: bits that are all 0 read as a block of zeros.
use Rattle.std.proofs.Common.{◌≡◌, refl, sym, ap, subst, ◌∙◌, ℕ, zero, suc, ◌-◌, ◌*◌, ◌/◌, ◌%◌, ◌^◌, ◌≤◌, false, ◌==◌, cond, ℤ, pos, negsuc, ◌+ℤ◌, ◌*ℤ◌, List, [], ◌∷◌, map, length, get_or, replicate, reverse, All, arith, rules}
use Rattle.std.{proofs.Math.Path.{fun_ext}, proofs.Math.Nat.{one-le-pow}, specs.Int.{Width, w8, int_wrap}}
use Rattle.std.{proofs.lemmas.List.{length-replicate, get_or-replicate}, proofs.lemmas.Bool.{cond_both}}
use Rattle.std.specs.List.{position_or_len}
use mir.Val.{bits}
use Rattle.zf_spec.{specs.Numbers.{digits_sum, value_of}, specs.Grid.{upto, places, indices, is_inside}}
use Rattle.zf_spec.specs.Lift.{unlift_line, line_value, along, along_axes_back, unlift}
use Rattle.zf_spec.{specs.Planes.{reach, plane_code, code_from}, specs.ReadPlanes.{Begins, planes_in}}
use Rattle.zf_spec.{specs.Kept.{kept_plane, kept_planes_from, kept_planes}, specs.Ranks.{order, by_place}}
use Rattle.zf_spec.{specs.Codes.{coefficients_of, existing_values, read_rate}, proofs.PlaneCode.{tail-zeros}}
use Rattle.zf_spec.{proofs.Wrapping.{wrap_value, zero_fits}, proofs.Counting.{length-upto, length-map-upto}}
use Rattle.zf_spec.{proofs.Reach.{has_one-zeros, reach_none}, proofs.KeptCases.{kept_tail-zeros}}
use Rattle.zf_spec.{proofs.Full.{full_only}, proofs.PlaneDigits.{get_or-blanks, coefficients_of-is}}

-- ---- lists of zeros

-- as many zeros as a list is long
zeros : {X : Type 0} → List X → List ℤ
zeros xs = map (λ x. pos 0) xs

get_or-zeros : {X : Type 0} (xs : List X) (k : ℕ) → get_or (zeros xs) k (pos 0) ≡ pos 0
unfolding zeros
get_or-zeros (x ∷ xs) (suc k) = get_or-zeros xs k
get_or-zeros x k = refl

-- ---- planes of zeros

reach-blank : (size : ℕ) → reach (replicate size false) ≡ 0
reach-blank size = reach_none (replicate size false) (has_one-zeros size)

code-blanks : (p k : ℕ) → code_from 0 (replicate p (replicate (suc k) false)) ≡ replicate p false
code-blanks zero k = refl
code-blanks (suc p) k = cc (reach-blank (suc k), tail-zeros k, code-blanks p k)

begins-blank : (m n : ℕ) → Begins (replicate m false) (replicate n false)
begins-blank zero n = tt
begins-blank (suc m) zero = (refl, begins-blank m zero)
begins-blank (suc m) (suc n) = (refl, begins-blank m n)

All-blanks : (p size : ℕ) → All (λ ds. length ds ≡ size) (replicate p (replicate size false))
All-blanks p size = λ i d h. ap length (get_or-replicate p i (replicate size false) d (omega (arith, h, length-replicate p (replicate size false)))) ∙ length-replicate size false

planes_in-blank : (p k n : ℕ) → planes_in p (suc k) (replicate n false) ≡ replicate p (replicate (suc k) false)
planes_in-blank p k n =
    let ps = replicate p (replicate (suc k) false) in
    let s = replicate n false in
    ap (λ m. planes_in m (suc k) s) (sym (length-replicate p (replicate (suc k) false)))
    ∙ sym (full_only (suc k) ps s (All-blanks p (suc k)) (subst (λ bs. Begins bs s) (sym (code-blanks p k)) (begins-blank p n)))

kept_plane-blank : (r k : ℕ) → kept_plane r 0 (replicate (suc k) false) ≡ replicate (suc k) false
kept_plane-blank r k = search (rules, kept_tail-zeros, has_one-zeros, length-replicate)

kept_planes-blanks : (r p k : ℕ) → kept_planes_from r 0 (replicate p (replicate (suc k) false)) ≡ replicate p (replicate (suc k) false)
kept_planes-blanks r zero k = refl
kept_planes-blanks r (suc p) k =
    cc (reach-blank (suc k), kept_plane-blank r k, kept_planes-blanks (r - length (plane_code 0 (replicate (suc k) false))) p k)

-- ---- coefficients and values of zeros

digits_sum-zeros : {X : Type 0} (xs : List X) → digits_sum (map (λ x. false) xs) ≡ pos 0
digits_sum-zeros [] = refl
digits_sum-zeros (x ∷ xs) = ap (λ v. pos 0 +ℤ negsuc 1 *ℤ v) (digits_sum-zeros xs)

value-blanks : (w : Width) (p size r : ℕ) (ks : List ℕ) → value_of w (map (λ k. get_or (get_or (replicate p (replicate size false)) k []) r false) ks) ≡ pos 0
value-blanks w p size r ks = search (rules, fun_ext, get_or-blanks, digits_sum-zeros, wrap_value, zero_fits)

by_place-zeros : {X : Type 0} (d : ℕ) (xs : List X) → by_place d (zeros xs) ≡ zeros (places d)
unfolding zeros
by_place-zeros d xs = cc (fun_ext (λ p. get_or-zeros xs (position_or_len (λ q. q == p) (order d))))

coefficients-blanks : (w : Width) (d p size : ℕ) → coefficients_of w d (replicate p (replicate size false)) ≡ zeros (places d)
unfolding zeros
coefficients-blanks w d p size =
    let ks = reverse (upto (bits w)) in
    let same : (λ (r : ℕ). value_of w (map (λ k. get_or (get_or (replicate p (replicate size false)) k []) r false) ks)) ≡ (λ (r : ℕ). pos 0) = fun_ext (λ r. value-blanks w p size r ks) in
    coefficients_of-is w d (replicate p (replicate size false)) ∙ ap (λ f. by_place d (map f (upto (4 ^ d)))) same ∙ by_place-zeros d (upto (4 ^ d))

-- ---- the inverse transform of zeros

unlift_line-zeros : (w : Width) → unlift_line w (pos 0) (pos 0) (pos 0) (pos 0) ≡ pos 0 ∷ pos 0 ∷ pos 0 ∷ pos 0 ∷ []
unfolding int_wrap
unlift_line-zeros w8 = refl
unlift_line-zeros w = refl

at_line : (f : ℤ → ℤ → ℤ → ℤ → List ℤ) (a b c d : ℤ) (i : ℕ) → a ≡ pos 0 → b ≡ pos 0 → c ≡ pos 0 → d ≡ pos 0 → f (pos 0) (pos 0) (pos 0) (pos 0) ≡ pos 0 ∷ pos 0 ∷ pos 0 ∷ pos 0 ∷ []
    → get_or (f a b c d) i (pos 0) ≡ pos 0
unfolding zeros
at_line f a b c d i p q r s zero_line = let same : f a b c d ≡ f (pos 0) (pos 0) (pos 0) (pos 0) = cc in ap (λ l. get_or l i (pos 0)) (same ∙ zero_line) ∙ get_or-zeros (upto 4) i

along-zeros : (w : Width) (step n : ℕ) → along (unlift_line w) step (zeros (upto n)) ≡ zeros (upto n)
unfolding along zeros
along-zeros w step n =
    let block = zeros (upto n) in
    let same : line_value (unlift_line w) step block ≡ (λ (p : ℕ). pos 0) =
    fun_ext (λ p. at_line (unlift_line w) _ _ _ _ (p / step % 4) (get_or-zeros (upto n) _) (get_or-zeros (upto n) _) (get_or-zeros (upto n) _) (get_or-zeros (upto n) _) (unlift_line-zeros w)) in
    ap (λ m. map (line_value (unlift_line w) step block) (upto m)) (length-map-upto (λ p. pos 0) n) ∙ ap (λ f. map f (upto n)) same

unlift-zeros : (w : Width) (step d n : ℕ) → along_axes_back (unlift_line w) step d (zeros (upto n)) ≡ zeros (upto n)
unlift-zeros w step zero n = refl
unlift-zeros w step (suc d) n = ap (along (unlift_line w) step) (unlift-zeros w (4 * step) d n) ∙ along-zeros w step n

existing_values-zeros : (es : List ℕ) (n : ℕ) → existing_values es (zeros (upto n)) ≡ zeros (places (length es))
unfolding existing_values zeros
existing_values-zeros es n =
    let same : (λ (p : ℕ). cond (is_inside es (indices (length es) p)) (get_or (zeros (upto n)) p (pos 0)) (pos 0)) ≡ (λ (p : ℕ). pos 0) =
    fun_ext (λ p. ap (λ v. cond (is_inside es (indices (length es) p)) v (pos 0)) (get_or-zeros (upto n) p) ∙ cond_both (is_inside es (indices (length es) p)) (pos 0) (pos 0) (λ v. v ≡ pos 0) (λ yes. refl) (λ no. refl)) in
    ap (λ f. map f (places (length es))) same

zeros-replicate : {X : Type 0} (xs : List X) → zeros xs ≡ replicate (length xs) (pos 0)
unfolding zeros
zeros-replicate [] = refl
zeros-replicate (x ∷ xs) = ap (λ vs. pos 0 ∷ vs) (zeros-replicate xs)

-- n bits that are all 0 read as a block of zeros
pub read_rate-zeros : (w : Width) (es : List ℕ) (n : ℕ) → read_rate w es (replicate n false) ≡ replicate (4 ^ length es) (pos 0)
unfolding read_rate
read_rate-zeros w es n =
    let d = length es in
    from_size (4 ^ d) refl (one-le-pow d 4 (omega arith))
  where
    from_size : (size : ℕ) → 4 ^ length es ≡ size → 1 ≤ size
        → existing_values es (unlift w (length es) (coefficients_of w (length es) (kept_planes (length (replicate n false)) (planes_in (bits w) (4 ^ length es) (replicate n false))))) ≡ replicate (4 ^ length es) (pos 0)
    from_size zero e some = absurd (omega arith)
    from_size (suc k) e some =
        cc (
          planes_in-blank (bits w) k n,
          kept_planes-blanks (length (replicate n false)) (bits w) k,
          coefficients-blanks w (length es) (bits w) (suc k),
          unlift-zeros w 1 (length es) (4 ^ (length es)),
          existing_values-zeros es (4 ^ (length es)),
          zeros-replicate (places (length es)),
          length-upto (4 ^ (length es)),
        )
