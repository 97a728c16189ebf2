-- Reading: the only planes whose code begins a list of bits that is continued with zeros.
use Rattle.std.specs.Prelude.{ℕ, suc, zero, ◌-◌, max, Bool, true, false, ◌≡◌, List, [], ◌∷◌, ◌++◌, length, drop, replicate}
use Rattle.zf_spec.specs.Planes.{reach, plane_code}

-- the bits begin s continued with zeros
abbrev pub Begins : List Bool → List Bool → Type 0
Begins [] s = Unit {0}
Begins (b ∷ bits) [] = (b ≡ false) × Begins bits []
Begins (b ∷ bits) (c ∷ s) = (b ≡ c) × Begins bits s

-- the first n bits of s continued with zeros
abbrev pub first_bits : ℕ → List Bool → List Bool
first_bits zero s = []
first_bits (suc n) [] = false ∷ first_bits n []
first_bits (suc n) (b ∷ s) = b ∷ first_bits n s

-- m digits behind a group bit: a one is followed by its run
abbrev pub group_in : ℕ → List Bool → (List Bool → List Bool) → List Bool
group_in m [] run = replicate m false
group_in m (false ∷ s) run = replicate m false
group_in m (true ∷ s) run = run s

-- m digits in a run: the last one is a one with no bit
abbrev pub run_in : ℕ → List Bool → List Bool
run_in zero s = []
run_in (suc zero) s = true ∷ []
run_in (suc (suc m)) [] = false ∷ run_in (suc m) []
run_in (suc (suc m)) (false ∷ s) = false ∷ run_in (suc m) s
run_in (suc (suc m)) (true ∷ s) = true ∷ group_in (suc m) s (run_in (suc m))

-- the m digits whose tail begins s
abbrev pub tail_in : ℕ → List Bool → List Bool
tail_in m s = group_in m s (run_in m)

-- the digits of a plane of this size, of which ranks below n have had a one above
abbrev pub plane_in : ℕ → ℕ → List Bool → List Bool
plane_in size n s = first_bits n s ++ tail_in (size - n) (drop n s)

-- the p planes whose code begins s
abbrev pub planes_in_from : ℕ → ℕ → ℕ → List Bool → List (List Bool)
planes_in_from zero size n s = []
planes_in_from (suc p) size n s =
    let ds = plane_in size n s in
    ds ∷ planes_in_from p size (max n (reach ds)) (drop (length (plane_code n ds)) s)

-- the only p planes of this size whose code begins s
abbrev pub planes_in : ℕ → ℕ → List Bool → List (List Bool)
planes_in p size s = planes_in_from p size 0 s
