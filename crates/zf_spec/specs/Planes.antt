-- Bit planes and their code (zfp 1.0 documentation, chapter Algorithm).
--     A plane is a list of digits by rank. Planes are a list of planes, the greatest first.
use Rattle.std.specs.Prelude.{ℕ, suc, ◌≡◌, max, All, Bool, true, false, ◌||◌, List, [], ◌∷◌, ◌++◌, length, map, reverse, slice_index_or, take, drop, if◌then◌else◌}
use Rattle.zf_spec.specs.Grid.{upto}

-- plane k of coefficients that are given by their digits, the lowest first
abbrev pub plane : ℕ → List (List Bool) → List Bool
plane k coefficients = map (λ ds. slice_index_or ds k false) coefficients

-- the w planes of coefficients of w digits
abbrev pub planes_of : ℕ → List (List Bool) → List (List Bool)
planes_of w coefficients = map (λ k. plane k coefficients) (reverse (upto w))

-- back: the digits of the coefficients by rank, the lowest first, of which w planes hold one each; planes
-- that are missing below are zero
unfoldable pub digits_in_planes : ℕ → ℕ → List (List Bool) → List (List Bool)
digits_in_planes w size planes = map (λ r. map (λ i. slice_index_or (slice_index_or planes i []) r false)
    (reverse (upto w))) (upto size)

-- planes of this size
abbrev pub AreOfSize : ℕ → List (List Bool) → Type 0
AreOfSize size planes = All (λ ds. length ds ≡ size) planes

-- some digit is one
abbrev pub has_one : List Bool → Bool
has_one [] = false
has_one (d ∷ ds) = d || has_one ds

-- one more than the greatest rank that has a one, or 0 where there is none
abbrev pub reach : List Bool → ℕ
reach [] = 0
reach (d ∷ ds) = if has_one (d ∷ ds) then suc (reach ds) else 0

-- one more than the greatest rank that has a one in any of these planes, or 0 where there is none
abbrev pub reach_of_all : List (List Bool) → ℕ
reach_of_all [] = 0
reach_of_all (ds ∷ planes) = max (reach ds) (reach_of_all planes)

-- a group bit says whether a one follows; if so, its run of digits comes
abbrev pub group : List Bool → List Bool → List Bool
group ds run = if has_one ds then true ∷ run else false ∷ []

-- the code from a run on: the digits up to and with the first one, of which that of the last rank is implied,
-- and all behind it
abbrev pub code_from_run : List Bool → List Bool
code_from_run [] = []
code_from_run (d ∷ []) = []
code_from_run (true ∷ e ∷ ds) = true ∷ group (e ∷ ds) (code_from_run (e ∷ ds))
code_from_run (false ∷ e ∷ ds) = false ∷ code_from_run (e ∷ ds)

-- the code of the digits from rank n on, where all ranks from n on were zero in the planes above
abbrev pub tail : List Bool → List Bool
tail [] = []
tail (d ∷ ds) = group (d ∷ ds) (code_from_run (d ∷ ds))

-- the code of a plane: its first n digits as they are, and then the tail
abbrev pub plane_code : ℕ → List Bool → List Bool
plane_code n ds = take n ds ++ tail (drop n ds)

-- the code of planes, the greatest first, where ranks below n have had a one above; that number goes from
-- plane to plane
abbrev pub code_from : ℕ → List (List Bool) → List Bool
code_from n [] = []
code_from n (ds ∷ planes) = plane_code n ds ++ code_from (max n (reach ds)) planes

-- the code of the top planes of a block
abbrev pub code : List (List Bool) → List Bool
code planes = code_from 0 planes

-- the code of plane k among planes, counted from the greatest: ranks below the reach of all planes above have
-- had a one
abbrev pub code_at : List (List Bool) → ℕ → List Bool
code_at planes k = plane_code (reach_of_all (take k planes)) (slice_index_or planes k [])

-- some plane has a one
abbrev pub any_one : List (List Bool) → Bool
any_one [] = false
any_one (ds ∷ planes) = has_one ds || any_one planes

-- how many planes there are from the greatest down to the lowest that has a one
abbrev pub needed_planes : List (List Bool) → ℕ
needed_planes [] = 0
needed_planes (ds ∷ planes) = if any_one (ds ∷ planes) then suc (needed_planes planes) else 0
