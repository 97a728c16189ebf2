-- A list that is filled from the front.
use Rattle.std.proofs.Common.{rules, ◌≡◌, sym, ◌∙◌, ℕ, ◌+◌, ◌<◌, List, map, length, get_or, set, take, arith}
use Rattle.std.proofs.lemmas.List.{take_more, take_more_set, take_all, map-set, length-map}

-- the place at the index is filled, and those before it as they were
pub fill_more : {X Y : Type 0} (f : X → Y) (xs : List X) (ys : List Y) (i : ℕ) (x : X) (d : Y) → i < length xs → i < length ys
    → take i (map f xs) ≡ take i ys → f x ≡ get_or ys i d → take (i + 1) (map f (set xs i x)) ≡ take (i + 1) ys
fill_more f xs ys i x d in_xs in_ys before here = search (rules, length-map, map-set, take_more_set, take_more)

-- every place is filled
pub fill_all : {X Y : Type 0} (f : X → Y) (xs : List X) (ys : List Y) (i : ℕ) → length xs ≡ i → length ys ≡ i → take i (map f xs) ≡ take i ys → map f xs ≡ ys
fill_all f xs ys i long same filled =
    sym (take_all i (map f xs) (omega (arith, length-map xs f))) ∙ filled ∙ take_all i ys (omega arith)
