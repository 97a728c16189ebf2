-- What was read between two cursors.
use Rattle.std.specs.Prelude.{ℕ, ◌≡◌, ◌-◌, ◌<◌, ◌≤◌, All, false, List, [], ◌∷◌, length, take, drop, replicate}
use Rattle.zf_spec.specs.HeldPlanes.{digits_held, planes_held, IsClearFrom}
use Rattle.zf_planes.specs.declared.cursor.Cursor.{Cursor}
use Rattle.zf_planes.specs.declared.in_lanes.PlanesInLanes.{PlanesInLanes}
use Rattle.zf_planes.specs.Decoding.{Takes}
use Rattle.zf_planes.specs.Lanes.{low_planes, lanes_in, AreBelow}
use Rattle.zf_planes.specs.States.{State, Comes}

-- so many bits were passed
abbrev pub Moves : Cursor → Cursor → ℕ → Type 0
Moves old new count = Takes old.reader new.reader old.left new.left count

-- where a cursor stands, below planes whose ones reach so far
abbrev pub state : ℕ → Cursor → State
state above cursor = record { left = cursor.left; above = above; reader = cursor.reader }

-- one plane was read into words
pub record MovesOverPlane (size : ℕ) (s t : State) (words : List ℕ) : Type 0 where
  pub comes : Comes size 1 s [] t (digits_held size words ∷ [])
  pub clear : IsClearFrom size words

-- the planes from the one of number i on are zero, and so are all bits from rank `size` on
pub record AreZeroFrom (size i : ℕ) (planes : List (List ℕ)) : Type 0 where
  pub back : drop i (planes_held size planes) ≡ replicate (length planes - i) (replicate size false)
  pub clear : All (IsClearFrom size) planes

-- the planes from the one of number `from` on and before the i-th were read, which have no one from rank n on
abbrev pub MovesOverSame : ℕ → ℕ → ℕ → ℕ → Cursor → Cursor → List (List ℕ) → List (List ℕ) → Type 0
MovesOverSame size n from i old new before after = Comes size (i - from)
    (state n old) (take from (planes_held size before)) (state n new) (take i (planes_held size after))

-- planes of four digits were read, of at most so many
pub record MovesOverPlanes (most : ℕ) (s t : State) (some : PlanesInLanes) : Type 0 where
  pub fits : some.count ≤ most
  pub below : AreBelow some.count (lanes_in 4 some.lanes)
  pub comes : Comes 4 some.count s [] t (low_planes some.count (lanes_in 4 some.lanes))

-- one at least, and four at most
pub record MovesOverSome (most : ℕ) (s t : State) (planes : PlanesInLanes) : Type 0 where
  pub some : 0 < planes.count
  pub few : planes.count ≤ 4
  pub read : MovesOverPlanes most s t planes
