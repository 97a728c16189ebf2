-- Lists of zeros, and lists that are continued with zeros.
use Rattle.std.proofs.Common.{◌≡◌, refl, sym, ap, ◌∙◌, ℕ, zero, suc, ◌+◌, ◌-◌, ◌^◌, ◌<◌, ◌≤◌, ⊎_elim, Bool, true, false, List, [], ◌∷◌, ◌++◌, length, take, drop, replicate, get_or, get_or-take, arith}
use Rattle.std.proofs.lemmas.List.{take-take, take-replicate, length-replicate, get_or-replicate, get_or-append_right}
use Rattle.std.{specs.Int.{w64, trailing_zeros}, proofs.lemmas.Bool.{cases_lt}}
use Rattle.zf_spec.{specs.Numbers.{field}, specs.ReadPlanes.{first_bits}}
use Rattle.zf_planes.proofs.Peeking.{one_ahead}

-- fewer than those that are known to be alike are alike
pub alike_fewer : {A : Type 0} (m n : ℕ) (x : A) (xs : List A) → m ≤ n → take n xs ≡ replicate n x → take m xs ≡ replicate m x
alike_fewer m n x xs less alike = sym (take-take m n xs less) ∙ ap (take m) alike ∙ take-replicate m n x less

-- the first bits of a list that is continued with zeros
pub first_bits-take : (n : ℕ) (s : List Bool) → first_bits n s ≡ take n s ++ replicate (n - length s) false
first_bits-take zero [] = refl
first_bits-take zero (b ∷ s) = let none : zero - suc (length s) ≡ 0 = omega arith in rw none refl
first_bits-take (suc n) [] =
    let more : suc n - 0 ≡ suc n = omega arith in
    rw more (ap (λ bs. false ∷ bs) (first_of_none n))
  where
    first_of_none : (n : ℕ) → first_bits n [] ≡ replicate n false
    first_of_none zero = refl
    first_of_none (suc n) = ap (λ bs. false ∷ bs) (first_of_none n)
first_bits-take (suc n) (b ∷ s) =
    let less : suc n - suc (length s) ≡ n - length s = omega arith in
    rw less (ap (λ bs. b ∷ bs) (first_bits-take n s))

-- where k zeros come, a number that has the next bits has so many zeros below its lowest one
pub zeros_below : (s : List Bool) (v k : ℕ) → field k v ≡ take k s → v < 2 ^ 64 → k ≤ 64 → take k s ≡ replicate k false → k ≤ trailing_zeros w64 v
zeros_below s v k seen fits small zeros = ⊎_elim (λ (below : t < k). absurd (no_one below)) (λ (enough : k ≤ t). enough) (cases_lt t k)
  where
    t : ℕ
    t = trailing_zeros w64 v

    no_one : t < k → ⊥
    no_one below =
        let here : t - t ≡ 0 = omega arith in
        let one : get_or s t false ≡ true =
        ap (λ (xs : List Bool). get_or xs t false) (one_ahead s v k t seen fits refl below small)
        ∙ get_or-append_right (replicate t false) (true ∷ drop (t + 1) s) t t false (length-replicate t false) (omega arith)
        ∙ ap (λ n. get_or (true ∷ drop (t + 1) s) n false) here in
        let none : get_or s t false ≡ false =
        sym (get_or-take k s t false below) ∙ ap (λ (xs : List Bool). get_or xs t false) zeros ∙ get_or-replicate k t false false below in
        cc
