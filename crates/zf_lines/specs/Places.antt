-- Rows of places, each empty or holding a value.
use Rattle.std.specs.Prelude.{◌≡◌, ℕ, ◌+◌, ◌-◌, ◌≤◌, List, [], ◌∷◌, ◌++◌, map, length, take, drop, replicate, get_or, Option, Some, None}

module _ {X : Type 0} where
  -- the values that are there
  abbrev pub somes : List (Option X) → List X
  somes [] = []
  somes (None ∷ cs) = somes cs
  somes (Some x ∷ cs) = x ∷ somes cs

  -- the place i holds a value
  abbrev pub IsHeld : List (Option X) → ℕ → Type 0
  IsHeld cs i = (x : X) × (get_or cs i None ≡ Some x)

  -- the len places from the index from on hold values
  abbrev pub IsRun : List (Option X) → ℕ → ℕ → Type 0
  IsRun cs from len = (from + len ≤ length cs) × ((xs : List X) × (take len (drop from cs) ≡ map Some xs))

  -- a place that holds nothing stands for zero
  abbrev pub values : X → List (Option X) → List X
  values zero [] = []
  values zero (None ∷ cs) = zero ∷ values zero cs
  values zero (Some x ∷ cs) = x ∷ values zero cs

  -- the first w places hold values, and no other does
  pub record IsFront (cs : List (Option X)) (w : ℕ) : Type 0 where
    pub held : length (somes cs) ≡ w
    pub front : let none : Option X = None in cs ≡ map Some (somes cs) ++ replicate (length cs - w) none

  -- zeros were written into the places up to the index w
  pub record IsFilledTo (zero : X) (cs ds : List (Option X)) (w : ℕ) : Type 0 where
    pub front : IsFront ds w
    pub same : values zero ds ≡ values zero cs
    pub size : length ds ≡ length cs
