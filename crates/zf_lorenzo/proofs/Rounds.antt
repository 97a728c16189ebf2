-- Rounds of wrapped differences and sums are the binomial sums of a line.
use Rattle.std.proofs.Common.{◌≡◌, ℤ, ◌+ℤ◌, ◌-ℤ◌, neg_ℤ, [], ◌∷◌, FitsSigned, sym, ap, ◌∙◌, arith}
use Rattle.std.proofs.lemmas.Int.{ints, int_wrap-add_left, int_wrap-add_right, int_wrap-sub_right}
use Rattle.std.specs.Int.{Width}
use Rattle.zf_spec.{specs.Numbers.{wrap}, specs.Lorenzo.{signed_choose, plain_choose}}
use Rattle.zf_spec.proofs.Wrapping.{wrap_value}
use Rattle.zf_lorenzo.specs.Lines.{line_sums}

-- a wrapped difference, or sum, of wrapped numbers
wrap-sub : (w : Width) (a b : ℤ) → wrap w (wrap w a -ℤ wrap w b) ≡ wrap w (a -ℤ b)
wrap-sub w a b = int_wrap-sub_right w (wrap w a) b ∙ int_wrap-add_left w a (neg_ℤ b)

wrap-add : (w : Width) (a b : ℤ) → wrap w (wrap w a +ℤ wrap w b) ≡ wrap w (a +ℤ b)
wrap-add w a b = int_wrap-add_right w (wrap w a) b ∙ int_wrap-add_left w a b

four_same : (a b c d a' b' c' d' : ℤ) → a ≡ a' → b ≡ b' → c ≡ c' → d ≡ d' → a ∷ b ∷ c ∷ d ∷ [] ≡ a' ∷ b' ∷ c' ∷ d' ∷ []
four_same a b c d a' b' c' d' e f g h = cc

pub differences_are_line : (n : Width) (x y z w w1 z1 y1 w2 z2 w3 : ℤ) → FitsSigned n x
    → w1 ≡ wrap n (w -ℤ z) → z1 ≡ wrap n (z -ℤ y) → y1 ≡ wrap n (y -ℤ x) → w2 ≡ wrap n (w1 -ℤ z1) → z2 ≡ wrap n (z1 -ℤ y1) → w3 ≡ wrap n (w2 -ℤ z2)
    → x ∷ y1 ∷ z2 ∷ w3 ∷ [] ≡ line_sums n signed_choose x y z w
differences_are_line n x y z w w1 z1 y1 w2 z2 w3 fits e1 e2 e3 e4 e5 e6 =
    let third : z2 ≡ wrap n ((z -ℤ y) -ℤ (y -ℤ x)) = rw (e5, e2, e3) (wrap-sub n (z -ℤ y) (y -ℤ x)) in
    let second : w2 ≡ wrap n ((w -ℤ z) -ℤ (z -ℤ y)) = rw (e4, e1, e2) (wrap-sub n (w -ℤ z) (z -ℤ y)) in
    let fourth : w3 ≡ wrap n (((w -ℤ z) -ℤ (z -ℤ y)) -ℤ ((z -ℤ y) -ℤ (y -ℤ x))) = rw (e6, second, third) (wrap-sub n ((w -ℤ z) -ℤ (z -ℤ y)) ((z -ℤ y) -ℤ (y -ℤ x))) in
    four_same _ _ _ _ _ _ _ _ (sym (wrap_value n x fits) ∙ ap (wrap n) (omega (arith, ints))) (e3 ∙ ap (wrap n) (omega (arith, ints)))
    (third ∙ ap (wrap n) (omega (arith, ints))) (fourth ∙ ap (wrap n) (omega (arith, ints)))

pub sums_are_line : (n : Width) (x y z w w1 z1 w2 y1 z2 w3 : ℤ) → FitsSigned n x
    → w1 ≡ wrap n (w +ℤ z) → z1 ≡ wrap n (z +ℤ y) → w2 ≡ wrap n (w1 +ℤ z1) → y1 ≡ wrap n (y +ℤ x) → z2 ≡ wrap n (z1 +ℤ y1) → w3 ≡ wrap n (w2 +ℤ z2)
    → x ∷ y1 ∷ z2 ∷ w3 ∷ [] ≡ line_sums n plain_choose x y z w
sums_are_line n x y z w w1 z1 w2 y1 z2 w3 fits e1 e2 e3 e4 e5 e6 =
    let third : z2 ≡ wrap n ((z +ℤ y) +ℤ (y +ℤ x)) = rw (e5, e2, e4) (wrap-add n (z +ℤ y) (y +ℤ x)) in
    let second : w2 ≡ wrap n ((w +ℤ z) +ℤ (z +ℤ y)) = rw (e3, e1, e2) (wrap-add n (w +ℤ z) (z +ℤ y)) in
    let fourth : w3 ≡ wrap n (((w +ℤ z) +ℤ (z +ℤ y)) +ℤ ((z +ℤ y) +ℤ (y +ℤ x))) = rw (e6, second, third) (wrap-add n ((w +ℤ z) +ℤ (z +ℤ y)) ((z +ℤ y) +ℤ (y +ℤ x))) in
    four_same _ _ _ _ _ _ _ _ (sym (wrap_value n x fits) ∙ ap (wrap n) (omega (arith, ints))) (e4 ∙ ap (wrap n) (omega (arith, ints)))
    (third ∙ ap (wrap n) (omega (arith, ints))) (fourth ∙ ap (wrap n) (omega (arith, ints)))
